-- A NAME IS POINTED AT: at its offset stands the text of the object, up to the zero that ends it, behind the header of a 4000.
use Rattle.std.specs.Prelude.{◌≡◌, List, ℕ, ◌+◌, ◌-◌, ◌≤◌, ◌<◌, length, take, drop, get_or, Ok}
use Rattle.shared_words.specs.Bytes.{le, Bytes}
use Rattle.studio_rules.specs.declared.Span.{Span}
use Rattle.studio_rules.specs.OwnData.{text}
use Rattle.studio_rules.specs.Calls.{name_call}

-- a name of n bytes at o
pub record NameStands (s : List ℕ) (o n : ℕ) : Type 0 where
  pub behind-header : 6 ≤ o
  pub of-object : take 2 (drop (o - 6) s) ≡ le 2 0x4000
  -- `text` are the bytes up to the first zero
  pub text-there : text (drop o s) ≡ take n (drop o s)
  pub in_file_lem : o + n < length s
  pub zero-behind : get_or (drop o s) n 0 ≡ 0

abbrev pub NamesPoint : Type 0
NamesPoint = (s : List ℕ) → Bytes s → (mesh : ℕ) (span : Span) → name_call s mesh ≡ Ok span → NameStands s span.offset span.size
