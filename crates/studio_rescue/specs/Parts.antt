-- The parts of the mended file, as they are put one behind the other.
use Rattle.std.specs.Prelude.{◌≡◌, ℕ, ◌+◌, ◌-◌, ◌*◌, ◌≤◌, List, ◌++◌, length, take, drop}
use Rattle.std.proofs.Math.Seq.{slice}
use Rattle.shared_words.specs.Bytes.{le, packed}
use Rattle.shared_words.specs.Effects.{filled}
use Rattle.shared_words.specs.Refusals.{limit}
use Rattle.studio_rules.specs.Layout.{bytes}
use Rattle.studio_lookup.specs.Slots.{slots}
use Rattle.studio_rescue_rules.specs.Rescue.{Sifted, sift, gone}
use Rattle.studio_rescue_rules.specs.Call.{Lent, flat}

-- the two lent rows, for the cuts and for the mended file
abbrev pub rescue_rows : {A : Type 0} → List A → List ℕ → Lent A
rescue_rows cuts out = record { cuts = cuts; out = out }

-- what stands before the children of 3D3D, at `at` in the file s, with other lengths
abbrev pub front_of : List ℕ → ℕ → ℕ → ℕ → List ℕ
front_of s at n m = ((take 2 s ++ le 4 n) ++ take (at - 4) (drop 6 s)) ++ le 4 m

-- 3D3D stands from `at` to `stop` in a file of a version, so many bytes of it go, and there is room
pub record Ready (s table : List ℕ) (version at stop lost cut_bytes out_bytes : ℕ) : Type 0 where
  pub begins : 6 ≤ at
  pub order : at + 6 ≤ stop
  pub ends : stop ≤ length s
  pub short : length s ≤ limit
  pub table_is : table ≡ slots
  pub lost_is : lost ≡ gone (sift version (at + 6) (slice (at + 6) stop s)).cuts
  pub cuts-room : 12 * length (sift version (at + 6) (slice (at + 6) stop s)).cuts ≤ cut_bytes
  pub out_room : length s ≤ lost + out_bytes

-- the rows after it, where x is what becomes of the children
pub record PutIs (s : List ℕ) (at stop lost : ℕ) (x : Sifted) (cuts cuts' out out' : List ℕ) : Type 0 where
  pub cuts_are : cuts' ≡ filled (packed 4 (flat x.cuts)) cuts
  pub out_is : out' ≡ filled ((front_of s at (length s - lost) (stop - at - lost) ++ bytes x.kept) ++ drop stop s) out
