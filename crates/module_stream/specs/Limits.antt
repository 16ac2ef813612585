-- The most bytes of a module that are read: those that it may have (`max_module`), and the five of a section's size that begins there.
use Rattle.std.specs.Prelude.{ℕ}

abbrev pub max_read : ℕ
max_read = 67108869
