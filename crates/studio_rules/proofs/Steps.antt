-- One step of the walk, read forwards: what it says of the bytes that it stands at.
use mathlib.Core.Path.{◌≡◌, refl, sym, ap, ◌∙◌}
use Prim.Native.Nat.{ℕ, ◌+◌, ◌-◌, ◌≤◌, ◌<◌}
use native.Mathlib.Omega.{arith}
use mathlib.Core.Bool.{Bool, true, false, ◌||◌}
use mathlib.Core.List.{List, [], ◌++◌, append_assoc}
use mathlib.Core.Option.{Option, none, some}
use lib.ListN.{length, take, drop, take-append-drop, length-drop, length-append, drop_of_length-le}
use lib.Seq.{length-take-le, drop-drop}
use lib.Dec.{leb}
use borrow.Author.Tests.{leb-true, eq-eqb, lt-ltb}
use Rattle.shared_words.specs.declared.Refusal.{Refusal}
use Rattle.shared_words.specs.Bytes.{value, Bytes}
use Rattle.studio_rules.specs.Table.{plus, listed, shape}
use Rattle.studio_rules.specs.OwnData.{own_size}
use Rattle.studio_rules.specs.Layout.{header}
use Rattle.studio_rules.specs.Rules.{Parent, unlisted, names_fit, Own}
use Rattle.shared_words.specs.Conditions.{broken}
use Rattle.studio_rules.specs.Walk.{Step, stop, pass, enter, header_conditions, child_conditions, opened, sorted, parted, length_field, step}
use Rattle.shared_words.proofs.Bools.{both, or_second}
use Rattle.shared_words.proofs.Bytes.{bytes_drop, bytes_take, word_small}
use Rattle.studio_rules.proofs.Headers.{header_is}
use Rattle.shared_words.proofs.Conditions.{Met, met}
use Rattle.studio_rules.proofs.OwnSize.{own_size_less, name-fits-more}

pub record Passed (s : List ℕ) (id : ℕ) (body rest : List ℕ) : Type 0 where
  pub is : header id (6 + length body) ++ (body ++ rest) ≡ s
  pub free : unlisted id ≡ true
  pub rest-bytes : Bytes rest

pub record Entered (p : Parent) (seen s : List ℕ) (id : ℕ) (own kids rest : List ℕ) : Type 0 where
  pub is : header id (6 + length own + length kids) ++ (own ++ (kids ++ rest)) ≡ s
  pub lawful : Own p seen id own
  pub leaf : plus id ≡ false → kids ≡ []
  pub kids_bytes : Bytes kids
  pub rest-bytes : Bytes rest

abbrev pub Says : Parent → List ℕ → List ℕ → Step → Type 0
Says p seen s (stop r) = Unit
Says p seen s (pass id body rest) = Passed s id body rest
Says p seen s (enter id own kids rest) = Entered p seen s id own kids rest

split-again : (k : ℕ) (body rest : List ℕ) → take k body ++ (drop k body ++ rest) ≡ body ++ rest
split-again k body rest = sym (append_assoc (take k body) (drop k body) rest) ∙ ap (λ (l : List ℕ). l ++ rest) (take-append-drop k body)

split-length : (k : ℕ) (body : List ℕ) → length (take k body) + length (drop k body) ≡ length body
split-length k body = sym (length-append (take k body) (drop k body)) ∙ ap length (take-append-drop k body)

module _ (p : Parent) (seen : List ℕ) (o : ℕ) (s : List ℕ) (id : ℕ) (body rest : List ℕ) (is : header id (6 + length body) ++ (body ++ rest) ≡ s)
    (small : id < 0x1_0000) (body_bytes : Bytes body) (rest-bytes : Bytes rest) where
  enter-says : (k : ℕ) → own_size (shape id) p.own body ≡ k → Met (child_conditions p seen o id body k) →
      Entered p seen s id (take k body) (drop k body) rest
  enter-says k z t =
      let fits : leb k (length body) ≡ true = search in
      let leaf : (plus id || leb (length body) k) ≡ true = search in
      let named : names_fit p id body ≡ true = search in
      let within : k ≤ length body = leb-true _ _ fits in
      let lk : length (take k body) ≡ k = length-take-le k body within in
      let m : 6 + length (take k body) + length (drop k body) ≡ 6 + length body = omega (arith, split-length k body) in
      let z₁ : own_size (shape id) p.own (take k body) ≡ length (take k body) =
      own_size_less (shape id) p.own (take k body) (drop k body) (rw (take-append-drop k body, lk) z) in
      record {
        is = rw (m, split-again k body rest) is;
        lawful = record {
          in_place = search;
          not_twice_lem = search;
          names_fit_lem = rw (← (name-fits-more (shape id) p.own (take k body) (drop k body) z₁), take-append-drop k body) named;
          own_data_exact_lem = eq-eqb _ _ z₁;
          numbers-finite = search;
          face-numbers-below = search;
          father_earlier_lem = search;
        };
        leaf = λ q. drop_of_length-le body (leb-true _ _ (or_second (plus id) (leb (length body) k) leaf q));
        kids_bytes = bytes_drop k body body_bytes;
        rest-bytes = rest-bytes;
      }

  opened-says : (r : Option Refusal) → broken (child_conditions p seen o id body (own_size (shape id) p.own body)) ≡ r →
      Says p seen s (opened id body rest (own_size (shape id) p.own body) r)
  opened-says (some r) e = tt
  opened-says none e = enter-says (own_size (shape id) p.own body) refl (met _ e)

  sorted-says : (b : Bool) → listed id ≡ b → Says p seen s (sorted b p seen o id body rest)
  sorted-says true e = opened-says _ refl
  sorted-says false e = record { is = is; free = both _ _ (lt-ltb id 0x1_0000 small) (rw e); rest-bytes = rest-bytes }

parted-says : (p : Parent) (seen : List ℕ) (o : ℕ) (s : List ℕ) → Bytes s → (n : ℕ) → length_field s ≡ n → (r : Option Refusal) → broken (header_conditions o s n) ≡ r →
    Says p seen s (parted p seen o s (value (take 2 s)) n r)
parted-says p seen o s b n v (some r) e = tt
parted-says p seen o s b n v none e =
    let t = met _ e in
    let l : 6 ≤ length s = leb-true _ _ t.0 in
    let l₂ : 6 ≤ n = leb-true _ _ t.1.0 in
    let l₃ : n ≤ length s = leb-true _ _ t.1.1.0 in
    let z : length (take (n - 6) (drop 6 s)) ≡ n - 6 = length-take-le (n - 6) (drop 6 s) (omega (arith, length-drop 6 s)) in
    let q : 6 + length (take (n - 6) (drop 6 s)) ≡ n = omega arith in
    let w : n ≡ 6 + (n - 6) = omega arith in
    let r : drop n s ≡ drop (n - 6) (drop 6 s) = ap (λ (k : ℕ). drop k s) w ∙ sym (drop-drop (n - 6) 6 s) in
    sorted-says p seen o s (value (take 2 s)) (take (n - 6) (drop 6 s)) (drop n s)
    (rw (q, r, take-append-drop (n - 6) (drop 6 s)) (rw (← v) (header_is s b l)))
    (word_small s b) (bytes_take (n - 6) _ (bytes_drop 6 s b)) (bytes_drop n s b) (listed (value (take 2 s))) refl

pub step-says : (p : Parent) (seen : List ℕ) (o : ℕ) (s : List ℕ) → Bytes s → Says p seen s (step p seen o s)
unfolding step
step-says p seen o s b = parted-says p seen o s b _ refl _ refl

-- a bad header stops the walk
pub step-stops : (p : Parent) (seen : List ℕ) (o : ℕ) (s : List ℕ) (r : Refusal) → broken (header_conditions o s (length_field s)) ≡ some r → step p seen o s ≡ stop r
unfolding step
step-stops p seen o s r e = rw e
