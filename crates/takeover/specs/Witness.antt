-- The theorem (SCOPE 9.5) speaks of something: every list of calls can be made from every tablet, by the calls' own contracts; a fresh session that
-- is accepted is a first tablet, and every journal can be reopened by a second. Assumes nothing.
use Rattle.std.specs.Prelude.{◌≡◌, refl, List, [], ℕ}
use Rattle.std.proofs.Common.{sym, ap}
use contract.Lifetimes.{Lfts}
use Rattle.config.specs.declared.TerrainConfig.{TerrainConfig}
use Rattle.config.specs.declared.ChunkPos.{ChunkPos}
use Rattle.session_calls.specs.Fresh.{Fresh, Started}
use Rattle.session_calls.proofs.Answered.{Answered, reopen_answered}
use Rattle.session_calls.specs.declared.Reply.{Reply}
use Rattle.session_calls.specs.declared.Session.{Session}
use Rattle.session_calls.specs.Calls.{Outcome, begun, Resumed, resumed, session_fresh_does, session_reopen_does}
use Rattle.session_calls.specs.Reopened.{Reopened}
use Rattle.takeover_model.specs.Model.{Call}
use Rattle.takeover_model.specs.Statement.{Tablet}
use Rattle.takeover.specs.AsMade.{Lent, Held, Shown, Turn, Note, Made, First, Second}

-- a slice somewhere that holds these numbers, to be written, and to be read
abbrev pub holding : List ℕ → Lent
holding ns = record { ref_ptr = (0, 0); ghost_name = 0; now = ns }

abbrev pub showing : List ℕ → Shown
showing ns = record { ref_ptr = (0, 0); now = ns }

-- .. and a record
abbrev pub keeping : Session → Held
keeping s = record { ref_ptr = (0, 0); ghost_name = 0; now = s }

abbrev pub two : Lfts 2
two = ([], ([], tt))

abbrev pub three : Lfts 3
three = ([], ([], ([], tt)))

abbrev pub four : Lfts 4
four = ([], ([], ([], ([], tt))))

-- a call on a tablet with this outcome
abbrev pub turn : Tablet → (o : Outcome) → Answered o.reply → Turn
turn t o a = record {
  session = keeping t.session;
  cells = holding t.cells;
  journal = holding t.journal;
  answer = a.answer;
  session' = keeping o.session;
  cells' = holding o.cells;
  journal' = holding o.journal;
}

-- .. one that is lent no cells
abbrev pub note : Tablet → (o : Outcome) → Answered o.reply → Note
note t o a = record {
  session = keeping t.session;
  journal = holding t.journal;
  answer = a.answer;
  session' = keeping o.session;
  journal' = holding o.journal;
}

-- answers and a last tablet, with which the list ks was made from t
pub record Makes (t : Tablet) (ks : List Call) : Type 1 where
  pub replies : List Reply
  pub last : Tablet
  pub made : Made t ks replies last

-- a fresh session that is accepted is a first tablet
abbrev pub first : (config : TerrainConfig) (place : ChunkPos) (c j : List ℕ) (s : Session) → (session_fresh_does config place c j).answer ≡ Started s → First
first config place c j s e =
    let o = session_fresh_does config place c j in
    record {
      lifetimes = two;
      config = config;
      place = place;
      cells = holding c;
      journal = holding j;
      session = s;
      cells' = holding o.cells;
      journal' = holding o.journal;
      gives = ap (λ (a : Fresh). begun a o.cells o.journal) (sym e);
    }

-- every journal has a second tablet that reopens it
abbrev pub second : (c j : List ℕ) (held : ℕ) → Second
second c j held =
    let o = session_reopen_does c j held in
    let a = reopen_answered c j held in
    record {
      lifetimes = two;
      cells = holding c;
      journal = showing j;
      held = held;
      result = a.result;
      answer = o.answer;
      says = a.says;
      cells' = holding o.cells;
      gives = ap (λ (x : Reopened). resumed x o.cells) a.says;
    }
