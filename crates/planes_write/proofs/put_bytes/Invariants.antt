-- `planes_write::put_bytes` meets its contract. The loop's invariant: the bytes of the first j ids are written. Assumes nothing.
use Rattle.std.proofs.Common.{◌≡◌}
use Rattle.grid.specs.Cube.{steps}
use Rattle.planes_write.specs.Writing.{put_bytes}
use Rattle.planes_write.proofs.put_bytes.Given as goal

abbrev pub invariant-loop-j : goal.invariant-loop-j
invariant-loop-j l = l.bytes ≡ steps l.j (put_bytes l.block l.n l.m) l.initial.bytes
