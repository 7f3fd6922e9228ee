-- How long own data is that begins a body: what its shape says fits, and where no children may follow it is all there is.
use mathlib.Core.Path.{◌≡◌, sym, ap, ◌∙◌}
use mathlib.Core.Bool.{true, false, true≢false}
use mathlib.Core.List.{List, [], ◌++◌}
use Prim.Native.Nat.{ℕ, ◌+◌, ◌-◌, ◌≤◌}
use native.Mathlib.Omega.{arith}
use lib.ListN.{length, length-append}
use lib.Seq.{slice, length-slice}
use Rattle.studio_rules.specs.Table.{Shape}
use Rattle.studio_rules.specs.OwnData.{own_size}
use Rattle.studio_rules.proofs.OwnSize.{own_size-more, has_name_lem}
use Rattle.studio_row.specs.Packed.{plus_in, shape_in}
use Rattle.studio_own_size.specs.declared.Flaw.{Flaw}
use Rattle.studio_own_size.specs.declared.Flaw.TheVariants.{NoName, Unfit, TooLong}
use Rattle.studio_own_size.specs.Own.{OwnIs}
use Rattle.studio_list_walk.specs.Laid.{Begins}
use Rattle.std.specs.Prelude.{Result, Ok, Err}
use Rattle.std.specs.Result.{result_unwrap_or}

-- the bytes of own data, where it has its name and fits
abbrev size_of : Result ℕ Flaw → ℕ
size_of r = result_unwrap_or r 0

own_answer : (sh : Shape) (around own more body : List ℕ) → own_size sh around own ≡ length own → own ++ more ≡ body → (r : Result ℕ Flaw) → OwnIs sh around body r → size_of r ≡ length own
own_answer sh around own more body h e r q =
    let z : own_size sh around body ≡ length own = ap (own_size sh around) (sym e) ∙ own_size-more sh around own more h in
    let l : length own ≤ length body = omega (arith, length-append own more, ap length e) in
    go z l r q
  where
    go : own_size sh around body ≡ length own → length own ≤ length body → (r : Result ℕ Flaw) → OwnIs sh around body r → size_of r ≡ length own
    go z l (Err NoName) q = absurd (true≢false (sym (has_name_lem sh around body (omega arith)) ∙ q))
    go z l (Err Unfit) q = absurd q
    go z l (Err TooLong) q = absurd (omega (arith, q.beyond))
    go z l (Ok k) q = q.is ∙ z

within-answer : (sh : Shape) (around body : List ℕ) (r : Result ℕ Flaw) → OwnIs sh around body r → size_of r ≤ length body
within-answer sh around body (Err NoName) q = omega arith
within-answer sh around body (Err Unfit) q = absurd q
within-answer sh around body (Err TooLong) q = omega arith
within-answer sh around body (Ok k) q = q.within

-- so many bytes of own data, where the body stands from `at` to stop
abbrev Found : List ℕ → ℕ → ℕ → ℕ → ℕ → Type 0
Found s row at stop k = ((around own more : List ℕ) → Begins row around own more → own ++ more ≡ slice at stop s → k ≡ length own) × (at + k ≤ stop)

module _ (s : List ℕ) (row : ℕ) {at stop : ℕ} (order : at ≤ stop) (stays : stop ≤ length s) where
  -- by the row's shape
  pub found-shape : plus_in row ≡ true → (r : Result ℕ Flaw) → ((around : List ℕ) → OwnIs (shape_in row) around (slice at stop s) r) → (k : ℕ) → k ≡ size_of r → Found s row at stop k
  found-shape holder r h k e =
      let v = within-answer (shape_in row) [] (slice at stop s) r (h []) in (
        λ around own more b q. e ∙ own_answer (shape_in row) around own more (slice at stop s) (b.exact holder) q r (h around),
        omega (arith, length-slice at stop s stays),
      )

  -- a leaf's body is its own data
  pub found-leaf : plus_in row ≡ false → Found s row at stop (stop - at)
  found-leaf leaf = (
    λ around own more b q. omega (arith, length-append own more, ap length q, length-slice at stop s stays, ap length (b.whole leaf)),
    omega arith,
  )
