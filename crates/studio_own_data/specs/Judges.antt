-- What the functions of this crate say of what stands in own data, by the conditions of crate studio_rules.
use Rattle.std.specs.Prelude.{◌≡◌, List, ℕ, ◌+◌, ◌*◌, length, drop, Result, Ok, Err}
use Rattle.std.proofs.Math.Option.{Option, none, some}
use Rattle.shared_words.specs.declared.Refusal.{Refusal}
use Rattle.studio_rules.specs.Table.{shape}
use Rattle.studio_rules.specs.OwnData.{name_size, count, own_size}
use Rattle.studio_rules.specs.Rules.{Parent}
use Rattle.shared_words.specs.Conditions.{broken}
use Rattle.studio_rules.specs.Walk.{own_conditions}
use Rattle.shared_words.specs.declared.Refusal.TheVariants.{Name, Text, Length}
use Rattle.studio_own_size.specs.declared.Flaw.{Flaw}
use Rattle.studio_own_size.specs.declared.Flaw.TheVariants.{NoName, Unfit, TooLong}

-- own data of a chunk with numbers in it has just its right length
pub record Exact (id : ℕ) (own : List ℕ) : Type 0 where
  pub vertices : id ≡ 0x4110 → length own ≡ 2 + 12 * count own
  pub pairs : id ≡ 0x4140 → length own ≡ 2 + 8 * count own
  pub words : id ≡ 0x4130 → length own ≡ name_size own + 2 + 2 * count (drop (name_size own) own)
  pub father : id ≡ 0xB010 → length own ≡ name_size own + 6

-- a flaw of own data, in the chunk at o
abbrev pub refusal_of : Flaw → ℕ → Refusal
refusal_of NoName o = Name o
refusal_of Unfit o = Text o
refusal_of TooLong o = Length o

-- what the conditions of own data come to, where it takes k bytes
abbrev pub JudgedIs : ℕ → Option Refusal → Result ℕ Refusal → Type 0
JudgedIs k none r = r ≡ Ok k
JudgedIs k (some x) r = r ≡ Err x

abbrev pub Judges : Parent → ℕ → ℕ → List ℕ → Result ℕ Refusal → Type 0
Judges p o id body r = JudgedIs (own_size (shape id) p.own body) (broken (own_conditions p o id body (own_size (shape id) p.own body))) r
