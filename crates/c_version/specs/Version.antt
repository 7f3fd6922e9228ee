-- A version as one number, for C, and that of this library.
use Rattle.std.specs.Prelude.{ℕ, ◌+◌, ◌*◌}

abbrev pub version_code : ℕ → ℕ → ℕ → ℕ
version_code major minor patch = 65_536 * major + 256 * minor + patch

abbrev pub version : ℕ
version = version_code 2 8 0
