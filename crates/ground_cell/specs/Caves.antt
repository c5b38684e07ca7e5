-- Where the ground is hollow (SCOPE 4.10), re-exported. Assumes nothing.
unfoldable pub use Rattle.cave_plain.specs.Caves.{spaghetti_cave, large_cavern, ravine_with, ravine_here, ravine_cut, carved}
