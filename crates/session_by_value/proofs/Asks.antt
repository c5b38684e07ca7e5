-- SCOPE 1.4: none of the six calls with the record by value asks anything of its caller. By computation, so that a condition on one of them
-- makes this module fail. Assumes nothing.
use mathlib.Core.Path.{◌≡◌, refl}
use contract.Lifetimes.{Lfts}
use borrow.Fn.Kinds.{Dens}
use Rattle.session_by_value.proofs.set.Reads as set_reads
use Rattle.session_by_value.proofs.set.Kinds as set_kinds
use Rattle.session_by_value.proofs.fill_column.Reads as column_reads
use Rattle.session_by_value.proofs.fill_column.Kinds as column_kinds
use Rattle.session_by_value.proofs.set_blocks.Reads as batch_reads
use Rattle.session_by_value.proofs.set_blocks.Kinds as batch_kinds
use Rattle.session_by_value.proofs.undo.Reads as undo_reads
use Rattle.session_by_value.proofs.undo.Kinds as undo_kinds
use Rattle.session_by_value.proofs.checkpoint.Reads as checkpoint_reads
use Rattle.session_by_value.proofs.checkpoint.Kinds as checkpoint_kinds
use Rattle.session_by_value.proofs.restore.Reads as restore_reads
use Rattle.session_by_value.proofs.restore.Kinds as restore_kinds

pub record AsksNothing : Type 1 where
  pub set : (κs : Lfts 2) (a : Dens κs set_kinds.ps) → set_reads.Asked κs a ≡ Unit
  pub column : (κs : Lfts 2) (a : Dens κs column_kinds.ps) → column_reads.Asked κs a ≡ Unit
  pub batch : (κs : Lfts 3) (a : Dens κs batch_kinds.ps) → batch_reads.Asked κs a ≡ Unit
  pub undo : (κs : Lfts 2) (a : Dens κs undo_kinds.ps) → undo_reads.Asked κs a ≡ Unit
  pub checkpoint : (κs : Lfts 2) (a : Dens κs checkpoint_kinds.ps) → checkpoint_reads.Asked κs a ≡ Unit
  pub restore : (κs : Lfts 3) (a : Dens κs restore_kinds.ps) → restore_reads.Asked κs a ≡ Unit

pub asks_nothing : AsksNothing
asks_nothing = record {
  set = λ κs a. refl;
  column = λ κs a. refl;
  batch = λ κs a. refl;
  undo = λ κs a. refl;
  checkpoint = λ κs a. refl;
  restore = λ κs a. refl;
}
