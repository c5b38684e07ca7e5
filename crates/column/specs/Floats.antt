-- The operations of f32 (SCOPE 3.1), under short names, re-exported. Assumes nothing.
pub use Rattle.column_shapes.specs.Floats.{◌+f◌, ◌-f◌, ◌*f◌, ◌/f◌, nat, real, square}
