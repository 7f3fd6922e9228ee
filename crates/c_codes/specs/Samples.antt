-- Worked numbers: what C gets for a few answers, in hexadecimal, where the upper half of a refusal is its number.
use Rattle.std.specs.Prelude.{◌≡◌, Ok, Err}
use Rattle.shared_words.specs.declared.Refusal.TheVariants.{TooLong, Trailing, Name, Index, NoRoom, NoMaterial, Changed}
use Rattle.c_codes.specs.Codes.{refusal_code, records_or, sizes_or, numbers_or, count_or}

pub record Worked : Type 0 where
  -- refusals of the table's first and last line, of P5, and of a place in the last byte that a file can have
  pub too_long : refusal_code TooLong ≡ 0x1_0000_0000
  pub p5 : refusal_code (Trailing 12) ≡ 0x3_0000_000C
  pub last_byte : refusal_code (Index 0xF_FFFF) ≡ 0xC_000F_FFFF
  pub no-material : refusal_code (NoMaterial 2) ≡ 0x1E_0000_0002
  pub changed : refusal_code (Changed 7) ≡ 0x25_0000_0007
  -- the largest place that is told as it is, and the next, which is told as that one
  pub largest : refusal_code (Name 0xFFFF_FFFF) ≡ 0x9_FFFF_FFFF
  pub one_more : refusal_code (Name 0x1_0000_0000) ≡ 0x9_FFFF_FFFF
  -- the triangle: six records; three vertices and one face; the bytes written
  pub six_records_lem : records_or (Ok record { records = 6; headers = 36; own = 50; skipped = 0 }) ≡ 6
  pub p11 : records_or (Err (NoRoom 6)) ≡ 0xF_0000_0006
  pub three_and_one : sizes_or (Ok record { vertices = 3; faces = 1; pairs = 0 }) ≡ 0x1_0003
  pub most : sizes_or (Ok record { vertices = 0xFFFF; faces = 0xFFFE; pairs = 0xFFFF }) ≡ 0xFFFE_FFFF
  -- a mapping of three pairs
  pub six_numbers : numbers_or (Ok record { vertices = 3; faces = 1; pairs = 3 }) ≡ 6
  pub written : count_or (Ok 86) ≡ 86
  pub no-room_to_write : count_or (Err (NoRoom 86)) ≡ 0xF_0000_0056
