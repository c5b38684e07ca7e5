-- `openmap_lines::put_text` meets its contract: the part of the buffer that it is lent becomes the text. Assumes nothing.
use Rattle.std.proofs.Common.{◌+◌, ◌-◌, length, refl, ap, ◌∙◌, arith}
use Rattle.std.proofs.lemmas.Slice.{put_mid-paste}
use lib.Seq.{take-length}
use Rattle.journal_format.specs.Written.{written}
use Rattle.journal_write.specs.Written.{paste_written}
use Rattle.openmap_lines.proofs.put_text.Goals as goal

pub returns : goal.returns
returns c =
    let a = c.args in
    let n = length a.t.now in
    let h = c.requires in
    record {
      bytes =
          put_mid-paste a.at (a.at + n - a.at) a.out.now c.copy_from_slice.new.self a.t.now n c.copy_from_slice.ensures.after (omega arith) refl
          ∙ paste_written a.out.now a.at a.t.now n (omega arith)
          ∙ ap (written a.out.now a.at) (take-length a.t.now);
      behind = refl;
    }
