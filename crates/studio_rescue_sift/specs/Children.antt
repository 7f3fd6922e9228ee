-- The children of 3D3D one by one, as code meets them.
use Rattle.std.specs.Prelude.{◌≡◌, ℕ, ◌+◌, ◌*◌, ◌≤◌, List, length, Option, Some, None}
use Rattle.std.proofs.Math.Option.{Option as Maybe, none, some}
use Rattle.std.proofs.Math.Seq.{slice}
use Rattle.shared_words.specs.declared.Refusal.{Refusal}
use Rattle.shared_words.specs.Refusals.{limit, number_of}
use Rattle.shared_words.specs.Bytes.{packed}
use Rattle.shared_words.specs.Conditions.{broken, Answer, refused, accepted}
use Rattle.shared_words.specs.Effects.{filled}
use Rattle.shared_numbers.specs.Put.{Put}
use Rattle.studio_rules.specs.Layout.{Run, size, bytes}
use Rattle.studio_rules.specs.Walk.{header_conditions, length_field}
use Rattle.studio_lookup.specs.Slots.{slots}
use Rattle.studio_rescue_rules.specs.Rescue.{Cut, Sifted, sift, gone}
use Rattle.studio_rescue_rules.specs.Call.{flat}
use Rattle.studio_rescue_sift.specs.declared.Cuts.{Cuts}

-- how many bytes are judged together at the start of s, by the first condition of the header there that is broken: those of
-- the child, or all
abbrev pub span_by : List ℕ → Maybe Refusal → ℕ
span_by s none = length_field s
span_by s (some r) = length s

unfoldable pub span : ℕ → List ℕ → ℕ
span o s = span_by s (broken (header_conditions o s (length_field s)))

-- a child by the answer to it alone
abbrev pub child_of : Answer Run → Option ℕ
child_of (refused r) = Some (number_of r)
child_of (accepted t) = None

abbrev pub cuts_of : List Cut → Cuts
cuts_of cuts = record { count = length cuts; gone = gone cuts }

-- a part of a file that is not too long, behind its first byte; and the table
pub record Within (s table : List ℕ) (from to : ℕ) : Type 0 where
  pub begins : 1 ≤ from
  pub order : from ≤ to
  pub ends : to ≤ length s
  pub short : length s ≤ limit
  pub table_is : table ≡ slots

-- and room for the cuts and for what is kept
pub record Fillable (s table : List ℕ) (version from to cut_bytes at out_bytes : ℕ) : Type 0 where
  pub within : Within s table from to
  pub cuts-room : 12 * length (sift version from (slice from to s)).cuts ≤ cut_bytes
  pub out_room : at + size (sift version from (slice from to s)).kept ≤ out_bytes

-- the rows after it
pub record FilledIs (x : Sifted) (cuts cuts' : List ℕ) (at : ℕ) (out out' : List ℕ) (next : ℕ) : Type 0 where
  pub cuts_are : cuts' ≡ filled (packed 4 (flat x.cuts)) cuts
  pub kept-is : Put out at (bytes x.kept) out' next
