-- The walk accepts the bytes of every layout that obeys the rules, and gives that layout back.
-- By the layout: each rule answers one condition of the step that meets its chunk.
use mathlib.Core.Path.{◌≡◌, refl, sym, ap, ◌∙◌}
use Prim.Native.Nat.{ℕ, zero, suc, ◌+◌, ◌-◌, ◌^◌, ◌<◌}
use native.Mathlib.Omega.{arith}
use mathlib.Core.Bool.{true, not, ◌||◌, false≢true}
use mathlib.Core.List.{List, [], ◌∷◌, ◌++◌, append_assoc}
use mathlib.Core.Option.{none}
use lib.ListN.{length, take, drop, length-append}
use lib.Seq.{take_at, drop_at, drop-drop}
use lib.Dec.{ltb, leb}
use borrow.Author.Tests.{le-leb, eqb-true, ltb-true, not-true}
use Rattle.shared_words.specs.Bytes.{value}
use Rattle.studio_rules.specs.Table.{plus, listed, shape}
use Rattle.studio_rules.specs.OwnData.{own_size, has_name}
use Rattle.studio_rules.specs.Layout.{Run, end, skip, known, header, size, bytes}
use Rattle.studio_rules.specs.Rules.{Parent, inside, no_child, unlisted, names_fit, children_in_plus, Own, Children, Obeys}
use Rattle.shared_words.specs.Conditions.{broken, accepted}
use Rattle.studio_rules.specs.Walk.{pass, enter, header_conditions, data_conditions, child_conditions, end_conditions, sorted, length_field, step, ended, with_skip, taken, run}
use Rattle.shared_words.proofs.Bools.{and_parts, or_else, or_second}
use Rattle.shared_words.proofs.Bytes.{value-le}
use Rattle.shared_words.proofs.Conditions.{Met, unbroken}
use Rattle.studio_rules.proofs.OwnSize.{own_size-more, has_name_lem, name-fits-more}
use Rattle.studio_rules.proofs.Rows.{under-listed, listed_small}
use Rattle.studio_rules.proofs.Sound.{length-bytes}

-- ---- one step

-- what stands at the start of s is told by its first six bytes: an identifier and a length, and so the body and the rest
pub record Headed (o : ℕ) (s : List ℕ) (id n : ℕ) (body rest : List ℕ) : Type 0 where
  pub id-is : value (take 2 s) ≡ id
  pub length-is : length_field s ≡ n
  pub good : broken (header_conditions o s n) ≡ none
  pub body_is : take (n - 6) (drop 6 s) ≡ body
  pub rest-is : drop n s ≡ rest

headed-at : (o : ℕ) (s : List ℕ) (id n : ℕ) (body rest : List ℕ) → n ≡ 6 + length body → value (take 2 s) ≡ id → length_field s ≡ n →
    drop 6 s ≡ body ++ rest → length s ≡ 6 + length (body ++ rest) → Headed o s id n body rest
headed-at o s id n body rest e v₂ v₄ t l =
    let m : n - 6 ≡ length body = omega arith in
    record {
      id-is = v₂;
      length-is = v₄;
      good = unbroken _ (le-leb 6 (length s) (omega arith), (le-leb 6 n (omega arith), (le-leb n (length s) (omega (arith, length-append body rest)), tt)));
      body_is = rw (t, m) (take_at body rest (length body) refl);
      rest-is = rw (e, ← (drop-drop (length body) 6 s), t) (drop_at body rest (length body) refl);
    }

pub headed : (o id n : ℕ) (body rest : List ℕ) → n ≡ 6 + length body → id < 0x1_0000 → n < 2 ^ 32 → Headed o (header id n ++ (body ++ rest)) id n body rest
headed o id n body rest e h l = headed-at o (header id n ++ (body ++ rest)) id n body rest e (value-le 2 id h) (value-le 4 n l) refl (omega arith)

step-header : (p : Parent) (seen : List ℕ) (o id n : ℕ) (body rest : List ℕ) → n ≡ 6 + length body → id < 0x1_0000 → n < 2 ^ 32 →
    step p seen o (header id n ++ (body ++ rest)) ≡ sorted (listed id) p seen o id body rest
unfolding step
step-header p seen o id n body rest e h l = go (header id n ++ (body ++ rest)) (headed o id n body rest e h l)
  where
    go : (s : List ℕ) → Headed o s id n body rest → step p seen o s ≡ sorted (listed id) p seen o id body rest
    go s f = rw (f.id-is, f.length-is, f.good, f.body_is, f.rest-is)

step_skip : (p : Parent) (seen : List ℕ) (o id : ℕ) (body rest : List ℕ) → 6 + length body < 2 ^ 32 → unlisted id ≡ true →
    step p seen o (header id (6 + length body) ++ (body ++ rest)) ≡ pass id body rest
step_skip p seen o id body rest l u =
    let f = and_parts (ltb id 0x1_0000) (not (listed id)) u in
    step-header p seen o id (6 + length body) body rest refl (ltb-true id 0x1_0000 f.0) l ∙ rw (not-true (listed id) f.1)

-- no child, no bytes
pub no_bytes : (t : Run) → no_child t ≡ true → bytes t ≡ []
no_bytes end h = refl
no_bytes (skip id body rest) h = absurd (false≢true h)
no_bytes (known id own kids rest) h = absurd (false≢true h)

step-known : (p : Parent) (seen : List ℕ) (o id n : ℕ) (own : List ℕ) (kids : Run) (rest : List ℕ) → n ≡ 6 + length own + length (bytes kids) → n < 2 ^ 32 →
    Own p seen id own → children_in_plus (inside p seen id own) kids ≡ true → step p seen o (header id n ++ (own ++ (bytes kids ++ rest))) ≡ enter id own (bytes kids) rest
step-known p seen o id n own kids rest e l a i =
    let known-id : listed id ≡ true = under-listed p.id id a.in_place in
    let la : length (own ++ bytes kids) ≡ length own + length (bytes kids) = length-append own (bytes kids) in
    let z : own_size (shape id) p.own own ≡ length own = eqb-true _ _ a.own_data_exact_lem in
    let s : own_size (shape id) p.own (own ++ bytes kids) ≡ length own = own_size-more (shape id) p.own own (bytes kids) z in
    let b : take (length own) (own ++ bytes kids) ≡ own = take_at own (bytes kids) (length own) refl in
    let named : has_name (shape id) (own ++ bytes kids) ≡ true = has_name_lem (shape id) p.own (own ++ bytes kids) (omega arith) in
    let text : names_fit p id (own ++ bytes kids) ≡ true = rw (name-fits-more (shape id) p.own own (bytes kids) z) a.names_fit_lem in
    let fits : leb (length own) (length (own ++ bytes kids)) ≡ true = le-leb (length own) (length (own ++ bytes kids)) (omega arith) in
    let leaf : (plus id || leb (length (own ++ bytes kids)) (length own)) ≡ true =
    or_else (plus id) _ (λ q. le-leb (length (own ++ bytes kids)) (length own) (omega (arith, ap length (no_bytes kids (or_second (plus id) (no_child kids) i q))))) in
    let d : Met (data_conditions p o id (take (length own) (own ++ bytes kids))) = rw b search in
    let g : broken (child_conditions p seen o id (own ++ bytes kids) (length own)) ≡ none = unbroken _ search in
    let t : step p seen o (header id n ++ ((own ++ bytes kids) ++ rest)) ≡ sorted (listed id) p seen o id (own ++ bytes kids) rest =
    step-header p seen o id n (own ++ bytes kids) rest (omega arith) (ltb-true _ _ (listed_small id known-id)) l in
    ap (λ (x : List ℕ). step p seen o (header id n ++ x)) (sym (append_assoc own (bytes kids) rest)) ∙ t ∙
    rw (known-id, s, g, b, drop_at own (bytes kids) (length own) refl)

-- ---- the walk

pub ended-good : (q : Parent) (o : ℕ) (kids : Run) → Children q kids → ended q o (accepted kids) ≡ accepted kids
ended-good q o kids a = rw (unbroken (end_conditions q o kids) search)

pub run_complete : (t : Run) (k : ℕ) (p : Parent) (seen : List ℕ) (o : ℕ) → size t < k → size t < 2 ^ 32 → Obeys p seen t → run k p seen o (bytes t) ≡ accepted t
run_complete t zero p seen o hk hs h = absurd (omega arith)
run_complete end (suc k) p seen o hk hs h = refl
run_complete (skip id body rest) (suc k) p seen o hk hs h =
    let ih = run_complete rest k p seen (o + (6 + length body)) (omega arith) (omega arith) h.1 in
    let st = step_skip p seen o id body (bytes rest) (omega arith) h.0 in
    ap (taken (run k) p seen o) st ∙ ap (with_skip id body) ih
run_complete (known id own kids rest) (suc k) p seen o hk hs h =
    let lk = length-bytes kids in
    let q : Parent = inside p seen id own in
    let st = step-known p seen o id (6 + length own + size kids) own kids (bytes rest) (omega arith) (omega arith) h.0 h.1.in_plus in
    let ik = run_complete kids k q [] (o + (6 + length own)) (omega arith) (omega arith) h.2 in
    let ir = run_complete rest k p (id ∷ seen) (o + (6 + length own + length (bytes kids))) (omega arith) (omega arith) h.3 in
    ap (taken (run k) p seen o) st ∙ rw (ik, ended-good q o kids h.1, ir)
