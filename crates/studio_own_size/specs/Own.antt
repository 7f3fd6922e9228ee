-- What the functions of this crate say of the size of own data, by the definitions of crate studio_rules.
use Rattle.std.specs.Prelude.{◌≡◌, true, false, List, ℕ, ◌≤◌, ◌<◌, ◌^◌, length, Result, Ok, Err}
use Rattle.studio_rules.specs.Table.{Shape}
use Rattle.studio_rules.specs.OwnData.{count, own_size, has_name, name_fits}
use Rattle.studio_own_size.specs.declared.Flaw.{Flaw}
use Rattle.studio_own_size.specs.declared.Flaw.TheVariants.{NoName, Unfit, TooLong}

-- so many bytes in so much room
abbrev pub Fitted : ℕ → ℕ → Result ℕ Flaw → Type 0
Fitted size room (Err NoName) = ⊥
Fitted size room (Err Unfit) = ⊥
Fitted size room (Err TooLong) = room < size
Fitted size room (Ok k) = (k ≡ size) × (size ≤ room)

pub record Fits (sh : Shape) (around body : List ℕ) (k : ℕ) : Type 0 where
  pub named : has_name sh body ≡ true
  pub is : k ≡ own_size sh around body
  pub within : k ≤ length body

pub record Exceeds (sh : Shape) (around body : List ℕ) : Type 0 where
  pub named : has_name sh body ≡ true
  pub beyond : length body < own_size sh around body

-- own data of a shape in a body, whatever the text of its name
abbrev pub OwnIs : Shape → List ℕ → List ℕ → Result ℕ Flaw → Type 0
OwnIs sh around body (Err NoName) = has_name sh body ≡ false
OwnIs sh around body (Err Unfit) = ⊥
OwnIs sh around body (Err TooLong) = Exceeds sh around body
OwnIs sh around body (Ok k) = Fits sh around body k

-- own data of a shape in a body, its name judged
abbrev pub FitIs : Shape → List ℕ → List ℕ → Result ℕ Flaw → Type 0
FitIs sh around body (Err NoName) = has_name sh body ≡ false
FitIs sh around body (Err Unfit) = (has_name sh body ≡ true) × (name_fits sh body ≡ false)
FitIs sh around body (Err TooLong) = (name_fits sh body ≡ true) × Exceeds sh around body
FitIs sh around body (Ok k) = (name_fits sh body ≡ true) × Fits sh around body k

-- the count word of own data
pub record CountIs (own : List ℕ) (n : ℕ) : Type 0 where
  pub is : n ≡ count own
  pub small : n < 2 ^ 16
