-- Bytes of a name before its zero, and a name that must fit the label.
use Rattle.std.specs.Prelude.{◌≡◌, ◌&&◌, cond, List, ℕ, ◌+◌, ◌-◌, ◌≤◌, ◌<◌, length, drop, get_or}
use Rattle.std.proofs.Math.Seq.{slice}
use Rattle.shared_words.specs.Labels.{printable}
use Rattle.shared_words.specs.Lists.{first_fault}
use Rattle.studio_rules.specs.Table.{name}
use Rattle.studio_rules.specs.OwnData.{name_size, has_name, name_fits}

-- none of the n bytes at a position is zero
abbrev pub NoZero : List ℕ → ℕ → ℕ → Type 0
NoZero s at n = (j : ℕ) → j < n → get_or s (at + j) 0 ≡ 0 → ⊥

-- the name at `at` goes on at least to i
pub record NameOn (s : List ℕ) (at i end : ℕ) : Type 0 where
  pub from : at ≤ i
  pub to : i ≤ end
  pub on : name_size (slice at end s) ≡ (i - at) + name_size (slice i end s)

-- the bytes of a name that fits the label, with its zero; 0 where there is none
unfoldable pub fit_size : List ℕ → ℕ
fit_size s = cond (has_name name s && name_fits name s) (name_size s) 0

-- the first bytes of the part from `at` to `stop`, up to `from` (which may stand behind it), are printable
pub record Printable (s : List ℕ) (at from stop : ℕ) : Type 0 where
  pub order : at ≤ stop
  pub within : stop ≤ length s
  pub start : at ≤ from
  pub near : from ≤ at + 16
  pub on : from - at ≤ first_fault printable (drop at s)
