-- The step of the walk at a position of the file: its header, its parts, and each fault that it may meet.
use mathlib.Core.Path.{◌≡◌, refl, sym, ap, ◌∙◌, subst}
use mathlib.Core.Bool.{Bool, true, false, cond}
use mathlib.Core.List.{List, ◌∷◌}
use mathlib.Core.Option.{Option, none, some}
use Prim.Native.Nat.{ℕ, ◌+◌, ◌-◌, ◌≤◌, ◌<◌}
use native.Mathlib.Omega.{arith}
use lib.Dec.{leb}
use lib.ListN.{length, take, drop}
use lib.Seq.{slice, length-slice}
use borrow.Author.Tests.{le-leb, lt-leb, leb-true, eqb-false}
use Rattle.shared_words.specs.declared.Refusal.{Refusal}
use Rattle.shared_words.specs.declared.Refusal.TheVariants.{Stray, Short, Overrun, Misplaced, Twice}
use Rattle.shared_words.specs.Bytes.{value}
use Rattle.studio_rules.specs.Table.{listed, under, shape, plus}
use Rattle.studio_rules.specs.OwnData.{own_size}
use Rattle.studio_rules.specs.Rules.{Parent, inside, few}
use Rattle.shared_words.specs.Conditions.{broken}
use Rattle.studio_rules.specs.Walk.{stop, pass, enter, header_conditions, own_conditions, opened, sorted, length_field, step}
use Rattle.shared_words.proofs.Conditions.{met, unbroken, broken-here, broken-later}
use Rattle.shared_numbers.specs.Numbers.{word_at, long_at}
use Rattle.shared_numbers.proofs.Slices.{drop-slice, take-slice, word_slice, long-slice}
use Rattle.studio_row.specs.Packed.{row_of, slot_of}
use Rattle.studio_row.proofs.Facts.{row-of-listed, row-of-unlisted}
use Rattle.studio_own_data.specs.Bounds.{BoundIs}
use Rattle.studio_own_data.specs.Judges.{JudgedIs, Judges}
use Rattle.studio_marks.specs.Marks.{noted}
use Rattle.studio_marks.proofs.Noted.{noted-length}
use Rattle.studio_head.specs.declared.Header.{Header}
use Rattle.studio_head.specs.declared.Head.{Head}
use Rattle.studio_head.specs.Heads.{HeaderIs, HeadIs, MarksAre, HeadWithin, opened_by, header_of}
use Rattle.studio_head.proofs.Orders.{somewhere}
use Rattle.studio_rules.proofs.Steps.{step-stops}
use Rattle.std.specs.Prelude.{Result, Ok, Err}

-- ---- the header

module _ (s : List ℕ) (at end : ℕ) (h : at < end) (l : end ≤ length s) where
  abbrev part : List ℕ
  part = slice at end s

  part_length : length part ≡ end - at
  part_length = length-slice at end s l

  field_is : 6 ≤ end - at → length_field part ≡ long_at s (at + 2)
  field_is m = ap (λ (x : List ℕ). value (take 4 x)) (drop-slice 2 at end s) ∙ long-slice (at + 2) end s (omega arith)

  header_is : (x : Option Refusal) (r : Result Header Refusal) → broken (header_conditions at part (length_field part)) ≡ x → HeaderIs s at x r →
      HeaderIs s at (broken (header_conditions at part (length_field part))) r
  header_is x r e i = subst (λ (y : Option Refusal). HeaderIs s at y r) (sym e) i

  pub header-stray : end - at < 6 → HeaderIs s at (broken (header_conditions at part (length_field part))) (Err (Stray at))
  header-stray m = header_is (some (Stray at)) _ (broken-here _ _ _ (lt-leb 6 (length part) (omega (arith, part_length)))) refl

  module _ (m : 6 ≤ end - at) (n : ℕ) (e : n ≡ long_at s (at + 2)) where
    six : leb 6 (length part) ≡ true
    six = le-leb 6 (length part) (omega (arith, part_length))

    field : length_field part ≡ n
    field = field_is m ∙ sym e

    pub header-short : n < 6 → HeaderIs s at (broken (header_conditions at part (length_field part))) (Err (Short at))
    header-short k = header_is (some (Short at)) _ (broken-later _ _ _ six ∙ broken-here _ _ _ (rw field (lt-leb 6 n k))) refl

    pub header-overrun : 6 ≤ n → end - at < n → HeaderIs s at (broken (header_conditions at part (length_field part))) (Err (Overrun at))
    header-overrun k o =
        header_is (some (Overrun at)) _
        (broken-later _ _ _ six ∙ broken-later _ _ _ (rw field (le-leb 6 n k)) ∙ broken-here _ _ _ (rw field (lt-leb n (length part) (omega (arith, part_length))))) refl

    pub header_fine : 6 ≤ n → n ≤ end - at → (id : ℕ) → id ≡ word_at s at → HeaderIs s at (broken (header_conditions at part (length_field part))) (header_of id (at + n))
    header_fine k o id i =
        header_is none _
        (unbroken _ (six, (rw field (le-leb 6 n k), (rw field (le-leb n (length part) (omega (arith, part_length))), tt))))
        (rw (i, e))

  -- ---- read back

  pub header-fault : (x : Option Refusal) (y : Refusal) → HeaderIs s at x (Err y) → x ≡ some y
  header-fault (some x) y i = cc
  header-fault none y i = cc

  pub record Headed (x : Option Refusal) (id past : ℕ) : Type 0 where
    pub fine : x ≡ none
    pub id-is : id ≡ word_at s at
    pub past_is : past ≡ at + long_at s (at + 2)

  pub header_read : (x : Option Refusal) (id past : ℕ) → HeaderIs s at x (header_of id past) → Headed x id past
  header_read (some x) id past i = let z : ◌≡◌ {A = ℕ} 0 1 = cc in absurd (omega arith)
  header_read none id past i =
      let h : ◌≡◌ {A = Header} record { id = id; stop = past } record { id = word_at s at; stop = at + long_at s (at + 2) } = cc in
      record { fine = refl; id-is = ap (λ (x : Header). x.id) h; past_is = ap (λ (x : Header). x.stop) h }

-- ---- the step

step_sorts : (p : Parent) (seen : List ℕ) (o : ℕ) (s : List ℕ) → broken (header_conditions o s (length_field s)) ≡ none →
    step p seen o s ≡ sorted (listed (value (take 2 s))) p seen o (value (take 2 s)) (take (length_field s - 6) (drop 6 s)) (drop (length_field s) s)
unfolding step
step_sorts p seen o s e = rw e

module _ (p : Parent) (seen : List ℕ) (s : List ℕ) (at end : ℕ) (h : at < end) (l : end ≤ length s) where
  pub step-fault : (r : Result Header Refusal) → HeaderIs s at (broken (header_conditions at (slice at end s) (length_field (slice at end s)))) r → (y : Refusal) → r ≡ Err y →
      step p seen at (slice at end s) ≡ stop y
  step-fault r i y e = step-stops p seen at (slice at end s) y (header-fault s at end h l _ y (subst (HeaderIs s at (broken (header_conditions at (slice at end s) (length_field (slice at end s))))) e i))

  -- a header that is fine: the parts of the chunk are parts of the file
  module _ (r : Result Header Refusal) (i : HeaderIs s at (broken (header_conditions at (slice at end s) (length_field (slice at end s)))) r) (id past : ℕ) (e : r ≡ header_of id past) where
    headed : Headed s at end h l (broken (header_conditions at (slice at end s) (length_field (slice at end s)))) id past
    headed = header_read s at end h l _ id past (subst (HeaderIs s at (broken (header_conditions at (slice at end s) (length_field (slice at end s))))) e i)

    conditions : (6 ≤ end - at) × (6 ≤ length_field (slice at end s)) × (length_field (slice at end s) ≤ end - at)
    conditions =
        let m = met _ headed.fine in
        let z = length-slice at end s l in
        let a = leb-true 6 (length (slice at end s)) m.0 in
        let c = leb-true (length_field (slice at end s)) (length (slice at end s)) m.1.1.0 in
        (omega arith, leb-true 6 (length_field (slice at end s)) m.1.0, omega arith)

    id-there : value (take 2 (slice at end s)) ≡ id
    id-there = word_slice at end s (omega (arith, conditions.0)) ∙ sym headed.id-is

    past-there : at + length_field (slice at end s) ≡ past
    past-there = ap (λ (n : ℕ). at + n) (field_is s at end h l conditions.0) ∙ sym headed.past_is

    pub step-at : step p seen at (slice at end s) ≡ sorted (listed id) p seen at id (slice (at + 6) past s) (slice past end s)
    step-at =
        let n : ℕ = length_field (slice at end s) in
        let q : at + 6 + (length_field (slice at end s) - 6) ≡ past = omega (arith, conditions.1, past-there) in
        let b : take (length_field (slice at end s) - 6) (drop 6 (slice at end s)) ≡ slice (at + 6) past s =
        ap (take (length_field (slice at end s) - 6)) (drop-slice 6 at end s) ∙ take-slice (length_field (slice at end s) - 6) (at + 6) end s (omega (arith, conditions.1, conditions.2)) ∙ ap (λ (k : ℕ). slice (at + 6) k s) q in
        let d : drop (length_field (slice at end s)) (slice at end s) ≡ slice past end s =
        drop-slice (length_field (slice at end s)) at end s ∙ ap (λ (k : ℕ). slice k end s) past-there in
        step_sorts p seen at (slice at end s) headed.fine ∙ rw (id-there, b, d)

    pub step_skip : listed id ≡ false → step p seen at (slice at end s) ≡ pass id (slice (at + 6) past s) (slice past end s)
    step_skip u = step-at ∙ rw u

    pub step_misplaced : listed id ≡ true → under p.id id ≡ false → step p seen at (slice at end s) ≡ stop (Misplaced at)
    step_misplaced u n = step-at ∙ rw (u, broken-here (under p.id id) (Misplaced at) _ n)

    pub step_twice : listed id ≡ true → under p.id id ≡ true → few p.id (id ∷ seen) ≡ false → step p seen at (slice at end s) ≡ stop (Twice at)
    step_twice u n f = step-at ∙ rw (u, broken-later (under p.id id) (Misplaced at) _ n, broken-here (few p.id (id ∷ seen)) (Twice at) _ f)

    pub step-opened : listed id ≡ true → under p.id id ≡ true → few p.id (id ∷ seen) ≡ true → step p seen at (slice at end s) ≡ opened_by p at id (slice (at + 6) past s) (slice past end s)
    step-opened u n f = step-at ∙ rw (u, broken-later (under p.id id) (Misplaced at) _ n, broken-later (few p.id (id ∷ seen)) (Twice at) _ f)

-- ---- own data

-- a row that is not 0 is a listed identifier's
pub row_listed : (id row : ℕ) → row ≡ row_of id → (row ≡ 0 → ⊥) → listed id ≡ true
row_listed id row e n = go (listed id) refl
  where
    go : (b : Bool) → listed id ≡ b → b ≡ true
    go true l = refl
    go false l = absurd (n (e ∙ row-of-unlisted id l))

pub row-unlisted : (id row : ℕ) → row ≡ row_of id → row ≡ 0 → listed id ≡ false
row-unlisted id row e z = go (listed id) refl
  where
    go : (b : Bool) → listed id ≡ b → b ≡ false
    go true l = absurd (eqb-false (row_of id) 0 (row-of-listed id l) (sym e ∙ z))
    go false l = refl

module _ (p : Parent) (at id : ℕ) (body : List ℕ) where
  pub judged-size : (k : ℕ) → Judges p at id body (Ok k) → (k ≡ own_size (shape id) p.own body) × (broken (own_conditions p at id body (own_size (shape id) p.own body)) ≡ none)
  judged-size k j = go (broken (own_conditions p at id body (own_size (shape id) p.own body))) refl j
    where
      go : (x : Option Refusal) → broken (own_conditions p at id body (own_size (shape id) p.own body)) ≡ x → JudgedIs (own_size (shape id) p.own body) x (Ok k) →
          (k ≡ own_size (shape id) p.own body) × (broken (own_conditions p at id body (own_size (shape id) p.own body)) ≡ none)
      go (some x) e j = let z : ◌≡◌ {A = ℕ} 0 1 = cc in absurd (omega arith)
      go none e j = (cc, e)

  pub judged-within : (k : ℕ) → Judges p at id body (Ok k) → k ≤ length body
  judged-within k j =
      let q = judged-size k j in
      let m = met _ q.1 in
      omega (arith, q.0, leb-true (own_size (shape id) p.own body) (length body) m.1.1.0)

-- own data that was judged fine ends within its chunk
pub judged-ends : (s : List ℕ) (at id past n : ℕ) → at + 6 ≤ past → past ≤ length s → n < 65536 → (r : Result ℕ Refusal) →
    listed id ≡ true → ((p : Parent) → under p.id id ≡ true → BoundIs p n → Judges p at id (slice (at + 6) past s) r) → (k : ℕ) → r ≡ Ok k → at + 6 + k ≤ past
judged-ends s at id past n h l small r m j k e =
    let x = somewhere id n m small in
    let w = judged-within x.p at id (slice (at + 6) past s) k (subst (Judges x.p at id (slice (at + 6) past s)) e (j x.p x.place x.bound)) in
    omega (arith, w, length-slice (at + 6) past s l, h)

module _ (p : Parent) (seen : List ℕ) (at id : ℕ) (body rest : List ℕ) where
  pub opened-fault : (y : Refusal) → Judges p at id body (Err y) → HeadIs p seen at (opened_by p at id body rest) (Err y)
  opened-fault y j = go (broken (own_conditions p at id body (own_size (shape id) p.own body))) j
    where
      go : (x : Option Refusal) → JudgedIs (own_size (shape id) p.own body) x (Err y) → HeadIs p seen at (opened id body rest (own_size (shape id) p.own body) x) (Err y)
      go (some x) j = cc
      go none j = let z : ◌≡◌ {A = ℕ} 0 1 = cc in absurd (omega arith)

  pub opened_enters : (k : ℕ) → Judges p at id body (Ok k) → opened_by p at id body rest ≡ enter id (take k body) (drop k body) rest
  opened_enters k j = let q = judged-size p at id body k j in rw (q.1, ← q.0)

-- own data of k bytes, in the body from at + 6 to past
module _ (p : Parent) (seen s : List ℕ) (at past k id row : ℕ) (rest : List ℕ) (o : at + 6 ≤ past) (l : past ≤ length s) (f : at + 6 + k ≤ past) where
  own_part : take k (slice (at + 6) past s) ≡ slice (at + 6) (at + 6 + k) s
  own_part = take-slice k (at + 6) past s f

  own_long : length (take k (slice (at + 6) past s)) ≡ k
  own_long = ap length own_part ∙ length-slice (at + 6) (at + 6 + k) s (omega arith) ∙ omega arith

  kids_long : length (drop k (slice (at + 6) past s)) ≡ past - (at + 6 + k)
  kids_long = ap length (drop-slice k (at + 6) past s) ∙ length-slice (at + 6 + k) past s l

  from_is : at + (6 + length (take k (slice (at + 6) past s))) ≡ at + 6 + k
  from_is = omega (arith, own_long)

  past_is : at + (6 + length (take k (slice (at + 6) past s)) + length (drop k (slice (at + 6) past s))) ≡ past
  past_is = omega (arith, own_long, kids_long)

  pub head_enter : plus id ≡ true → row ≡ row_of id → (word : ℕ) → BoundIs (inside p seen id (slice (at + 6) (at + 6 + k) s)) word →
      HeadIs p seen at (enter id (take k (slice (at + 6) past s)) (drop k (slice (at + 6) past s)) rest) (Ok (Head.Enter id row word (at + 6 + k) past))
  head_enter u e word w = rw (u, from_is, past_is, own_part, e, ← w.is)

  pub head_leaf : plus id ≡ false → HeadIs p seen at (enter id (take k (slice (at + 6) past s)) (drop k (slice (at + 6) past s)) rest) (Ok (Head.Leaf past))
  head_leaf u = rw (u, past_is)

-- a chunk that is skipped
pub head_skip : (p : Parent) (seen s : List ℕ) (at past id : ℕ) (rest : List ℕ) → at + 6 ≤ past → past ≤ length s → HeadIs p seen at (pass id (slice (at + 6) past s) rest) (Ok (Head.Skip past))
head_skip p seen s at past id rest o l =
    let z : at + (6 + length (slice (at + 6) past s)) ≡ past = omega (arith, length-slice (at + 6) past s l) in
    rw z

-- the marks where own data is judged: they name the chunk, or there is a fault
pub marks-opened : (p : Parent) (at id : ℕ) (body rest : List ℕ) (ms : List ℕ) → MarksAre at (opened_by p at id body rest) ms (noted (slot_of id) at ms)
marks-opened p at id body rest ms = go (broken (own_conditions p at id body (own_size (shape id) p.own body)))
  where
    go : (x : Option Refusal) → MarksAre at (opened id body rest (own_size (shape id) p.own body) x) ms (noted (slot_of id) at ms)
    go (some x) = tt
    go none = refl

pub length-noted : (b : Bool) (ms : List ℕ) (k at : ℕ) → length (cond b (noted k at ms) ms) ≡ length ms
length-noted true ms k at = noted-length k at ms
length-noted false ms k at = refl

-- a slot noted or not, there are six marks
pub six_still : (b : Bool) (ms ms' : List ℕ) (k at : ℕ) → ms' ≡ cond b (noted k at ms) ms → length ms ≡ 6 → length ms' ≡ 6
six_still b ms ms' k at e six = ap length e ∙ length-noted b ms k at ∙ six

pub within_more : (at past end : ℕ) → past ≤ end → (r : Result Head Refusal) → HeadWithin at past r → HeadWithin at end r
within_more at past end h (Err x) w = tt
within_more at past end h (Ok (Head.Skip q)) w = omega arith
within_more at past end h (Ok (Head.Leaf q)) w = omega arith
within_more at past end h (Ok (Head.Enter id row word from q)) w = omega arith
