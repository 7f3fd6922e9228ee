-- The rescue answers as the reader does, but where the reader's fault lies in the children of 3D3D.
-- By the walk, whose equations the mending shares.
use mathlib.Core.Path.{◌≡◌, refl, sym, ap, ◌∙◌}
use mathlib.Core.Logic.{◌⊎◌, inl, inr}
use Prim.Native.Nat.{ℕ, zero, suc, ◌+◌, ◌^◌, ◌≤◌, ◌<◌}
use native.Mathlib.Omega.{arith}
use mathlib.Core.Bool.{Bool, true, false}
use mathlib.Core.List.{List, [], ◌∷◌, ◌++◌, append_assoc, append-nil}
use mathlib.Core.Option.{Option, none, some}
use lib.Dec.{eqb}
use lib.ListN.{length, drop, length-drop}
use borrow.Author.Tests.{eqb-true, leb-true}
use Rattle.shared_words.specs.declared.Refusal.{Refusal}
use Rattle.shared_words.specs.Bytes.{Bytes}
use Rattle.shared_words.specs.Refusals.{limit}
use Rattle.studio_rules.specs.Layout.{Run, end, skip, known, header, size, bytes, offset_of, ◌then◌}
use Rattle.studio_rules.specs.Rules.{Parent, inside, tally, Obeys}
use Rattle.shared_words.specs.Conditions.{broken, Answer, refused, accepted}
use Rattle.studio_rules.specs.Walk.{file_conditions, length_field, Step, stop, pass, enter, step, ended, with_skip, with_known, taken, walk, top, verdict}
use Rattle.shared_words.proofs.Bytes.{bytes_drop}
use Rattle.shared_words.proofs.Conditions.{met}
use Rattle.studio_rules.proofs.Steps.{Says, Passed, Entered, step-says}
use Rattle.studio_rules.proofs.Sound.{length-bytes, Tells, Closes, ended_closes, walk-tells}
use Rattle.studio_rules.proofs.Verdict.{top-plus}
use Rattle.studio_rules.proofs.Complete.{ended-good}
use Rattle.studio_rules.proofs.Fuel.{walk_nil, walk_cons, Shorter, step-short}
use Rattle.studio_scene.specs.Passed.{passed}
use Rattle.studio_scene.specs.Scene.{holding, file_of}
use Rattle.studio_scene.proofs.Then.{obeys-join}
use Rattle.studio_rules.proofs.Then.{then_assoc, size_then, bytes_then}
use Rattle.studio_scene.proofs.Holds.{own_none, none-missing}
use Rattle.studio_rescue_rules.specs.Rescue.{version_of, scene, Sifted, sift, around, mend_step, mend, mended, Cut, sifted_at, beyond, saved, rescue}
use Rattle.studio_rescue_rules.specs.Theorems.{FaultInScene, FirstFault}
use Rattle.studio_rescue_rules.proofs.Mend.{lawful, ends_well}
use Rattle.studio_rescue_rules.proofs.Outside.{first_scene}
use Rattle.studio_rescue_rules.proofs.Kept.{sift-good}
use Rattle.studio_rescue_rules.proofs.Fuel.{mend_nil, mend_cons}

-- The reader's answer a to the run s at o is the first fault of the children of its 3D3D. The rescue's answer m is then by
-- that to what follows it.
pub record InScene (v : ℕ) (seen : List ℕ) (o : ℕ) (s : List ℕ) (a m : Answer Run) : Type 0 where
  pub fault : Refusal
  pub before : Run
  pub body : List ℕ
  pub back : List ℕ
  pub at : ℕ
  pub at-is : at ≡ o + size before
  pub is : s ≡ bytes before ++ (header 0x3D3D (6 + length body) ++ (body ++ back))
  pub obeys : Obeys (top v) seen before
  pub refuses : walk (scene v) [] (at + 6) body ≡ refused fault
  pub answers : a ≡ refused fault
  pub goes_on : (r : Refusal) → walk (top v) (0x3D3D ∷ passed seen before) (at + (6 + length body)) back ≡ refused r → m ≡ refused r
  pub saves : (t : Run) → walk (top v) (0x3D3D ∷ passed seen before) (at + (6 + length body)) back ≡ accepted t → m ≡ accepted (holding before (sift v (at + 6) body).kept t)

-- two answers are the same, or the first is such a fault
abbrev Agree : ℕ → List ℕ → ℕ → List ℕ → Answer Run → Answer Run → Type 0
Agree v seen o s a m = (m ≡ a) ⊎ InScene v seen o s a m

-- Behind the chunk c: f puts it before what is accepted, and hands a refusal on.
behind : (v : ℕ) (seen : List ℕ) (o o' : ℕ) (c : Run) (s rest : List ℕ) (f : Answer Run → Answer Run) (a m : Answer Run) → ((r : Refusal) → f (refused r) ≡ refused r) → ((t : Run) → f (accepted t) ≡ accepted (c then t)) →
    ((t : Run) → passed seen (c then t) ≡ passed (passed seen c) t) → s ≡ bytes c ++ rest → o' ≡ o + size c → Obeys (top v) seen c → InScene v (passed seen c) o' rest a m → InScene v seen o s (f a) (f m)
behind v seen o o' c s rest f a m hands puts p e l h w = record {
  fault = w.fault;
  before = c then w.before;
  body = w.body;
  back = w.back;
  at = w.at;
  at-is = omega (arith, w.at-is, size_then c w.before);
  is = e ∙ ap (λ (y : List ℕ). bytes c ++ y) w.is ∙ rw (bytes_then c w.before) (sym (append_assoc (bytes c) (bytes w.before) _));
  obeys = obeys-join (top v) seen c w.before h w.obeys;
  refuses = w.refuses;
  answers = ap f w.answers ∙ hands w.fault;
  goes_on = λ r k. ap f (w.goes_on r (rw (p w.before) at k)) ∙ hands r;
  saves = λ t k.
      let x : Run = known 0x3D3D [] (sift v (w.at + 6) w.body).kept t in
      ap f (w.saves t (rw (p w.before) at k)) ∙ puts (w.before then x) ∙ ap accepted (sym (then_assoc c w.before x));
}

skip-agrees : (v : ℕ) (seen : List ℕ) (o : ℕ) (s : List ℕ) (id : ℕ) (body rest : List ℕ) → Passed s id body rest → (a m : Answer Run) → Agree v seen (o + (6 + length body)) rest a m →
    Agree v seen o s (with_skip id body a) (with_skip id body m)
skip-agrees v seen o s id body rest g a m (inl e) = inl (ap (with_skip id body) e)
skip-agrees v seen o s id body rest g a m (inr w) =
    inr (behind v seen o (o + (6 + length body)) (skip id body end) s rest (with_skip id body) a m (λ r. refl) (λ t. refl) (λ t. refl) (sym g.is ∙ rw (append-nil body)) (omega arith) (g.free, tt) w)

known-agrees : (v : ℕ) (seen : List ℕ) (o : ℕ) (s : List ℕ) (id : ℕ) (own kids rest : List ℕ) → Entered (top v) seen s id own kids rest → (k : Answer Run) → Closes (inside (top v) seen id own) kids k →
    (a m : Answer Run) → Agree v (id ∷ seen) (o + (6 + length own + length kids)) rest a m → Agree v seen o s (with_known id own k a) (with_known id own k m)
known-agrees v seen o s id own kids rest g k q a m (inl e) = inl (ap (with_known id own k) e)
known-agrees v seen o s id own kids rest g (refused r) q a m (inr w) = inl refl
known-agrees v seen o s id own kids rest g (accepted k) q a m (inr w) =
    let z : size k ≡ length kids = sym (length-bytes k) ∙ ap length q.is in
    let n : ℕ = 6 + length own + length kids in
    inr (behind v seen o (o + n) (known id own k end) s rest (with_known id own (accepted k)) a m (λ r. refl) (λ t. refl) (λ t. refl)
    (sym g.is ∙ rw (z, q.is, append-nil kids) (ap (λ (y : List ℕ). header id n ++ y) (sym (append_assoc own kids rest))))
    (omega arith) (g.lawful, lawful (top v) seen s id own kids rest k g q, q.obeys, tt) w)

-- 3D3D itself: where its children are accepted they are all kept
scene-agrees : (v : ℕ) (seen : List ℕ) (o : ℕ) (s kids rest : List ℕ) → Entered (top v) seen s 0x3D3D [] kids rest → length kids < 2 ^ 32 →
    (k : Answer Run) → Tells (scene v) [] kids k → walk (scene v) [] (o + 6) kids ≡ k → (a : Answer Run) → walk (top v) (0x3D3D ∷ seen) (o + (6 + length kids)) rest ≡ a →
    Agree v seen o s (with_known 0x3D3D [] (ended (scene v) o k) a) (with_known 0x3D3D [] (ended (scene v) o (accepted (sift v (o + 6) kids).kept)) a)
scene-agrees v seen o s kids rest g l (refused r) q e a b = inr record {
  fault = r;
  before = end;
  body = kids;
  back = rest;
  at = o;
  at-is = omega arith;
  is = sym g.is;
  obeys = tt;
  refuses = e;
  answers = refl;
  goes_on = λ r k. rw (ends_well v o (sift v (o + 6) kids).kept, sym b ∙ k);
  saves = λ t k. rw (ends_well v o (sift v (o + 6) kids).kept, sym b ∙ k);
}
scene-agrees v seen o s kids rest g l (accepted t) q e a b =
    let n : size t < 2 ^ 32 = omega (arith, length-bytes t, ap length q.is) in
    let x : (sift v (o + 6) kids).kept ≡ t = ap (λ (y : List ℕ). (sift v (o + 6) y).kept) (sym q.is) ∙ ap (λ (y : Sifted). y.kept) (sift-good v (o + 6) t n q.obeys) in
    inl (rw x)

-- ---- the run

abbrev Agrees : ℕ → ℕ → Type 0
Agrees v n = (seen : List ℕ) (o : ℕ) (s : List ℕ) → length s < n → length s < 2 ^ 32 → Bytes s → Agree v seen o s (walk (top v) seen o s) (mend v seen o s)

enter-agrees : (v : ℕ) (seen : List ℕ) (o : ℕ) (s : List ℕ) (id : ℕ) (own kids rest : List ℕ) → Entered (top v) seen s id own kids rest → length kids < 2 ^ 32 →
    Agree v (id ∷ seen) (o + (6 + length own + length kids)) rest (walk (top v) (id ∷ seen) (o + (6 + length own + length kids)) rest) (mend v (id ∷ seen) (o + (6 + length own + length kids)) rest) →
    (e : Bool) → eqb id 0x3D3D ≡ e → Agree v seen o s (taken walk (top v) seen o (enter id own kids rest)) (around v e (mend v) seen o id own kids rest)
enter-agrees v seen o s id own kids rest g l ih true e =
    let i = eqb-true id 0x3D3D e in
    let g₁ : Entered (top v) seen s 0x3D3D own kids rest = rw i at g in
    let z : own ≡ [] = own_none v own g₁.lawful.own_data_exact_lem in
    let g₂ : Entered (top v) seen s 0x3D3D [] kids rest = rw z at g₁ in
    let n : tally (0x3D3D ∷ []) seen ≡ 0 = first_scene v seen [] g₂.lawful in
    rw (i, z, n) (scene-agrees v seen o s kids rest g₂ l (walk (scene v) [] (o + 6) kids) (walk-tells (scene v) [] (o + 6) kids g.kids_bytes) refl
    (walk (top v) (0x3D3D ∷ seen) (o + (6 + length kids)) rest) refl)
enter-agrees v seen o s id own kids rest g l ih false e =
    let q : Parent = inside (top v) seen id own in
    let o₁ : ℕ = o + (6 + length own) in
    let o₂ : ℕ = o + (6 + length own + length kids) in
    known-agrees v seen o s id own kids rest g
    (ended q o (walk q [] o₁ kids)) (ended_closes q o kids (walk q [] o₁ kids) (walk-tells q [] o₁ kids g.kids_bytes))
    (walk (top v) (id ∷ seen) o₂ rest) (mend v (id ∷ seen) o₂ rest) ih

step-agrees : (v : ℕ) (seen : List ℕ) (o : ℕ) (s : List ℕ) → length s < 2 ^ 32 → Agrees v (length s) → (x : Step) → Says (top v) seen s x → Shorter (length s) x →
    Agree v seen o s (taken walk (top v) seen o x) (mend_step v (mend v) seen o x)
step-agrees v seen o s l ih (stop r) g h = inl refl
step-agrees v seen o s l ih (pass id body rest) g h =
    let o₁ : ℕ = o + (6 + length body) in
    skip-agrees v seen o s id body rest g (walk (top v) seen o₁ rest) (mend v seen o₁ rest) (ih seen o₁ rest h (omega arith) g.rest-bytes)
step-agrees v seen o s l ih (enter id own kids rest) g h =
    enter-agrees v seen o s id own kids rest g (omega arith) (ih (id ∷ seen) (o + (6 + length own + length kids)) rest h.1 (omega arith) g.rest-bytes) (eqb id 0x3D3D) refl

agrees : (v n : ℕ) → Agrees v n
agrees v zero seen o s h l b = absurd (omega arith)
agrees v (suc n) seen o [] h l b = inl (mend_nil v seen o ∙ sym (walk_nil (top v) seen o))
agrees v (suc n) seen o (x ∷ s) h l b =
    rw (walk_cons (top v) seen o x s, mend_cons v seen o x s)
    (step-agrees v seen o (x ∷ s) l (λ seen o t k. agrees v n seen o t (omega arith)) (step (top v) seen o (x ∷ s)) (step-says (top v) seen o (x ∷ s) b) (step-short (top v) seen o (x ∷ s)))

-- ---- the file

-- 4D4D ends well, as it has a 3D3D
pub file-ends_well : (v : ℕ) (before kept after : Run) → ended (top v) 0 (accepted (holding before kept after)) ≡ accepted (holding before kept after)
file-ends_well v before kept after =
    ended-good (top v) 0 (holding before kept after)
    record { in_plus = top-plus v (holding before kept after); none-missing = none-missing v before kept after; corners-below = refl; mapping_matches_lem = refl }

module _ (s : List ℕ) (e : broken (file_conditions s (length_field s)) ≡ none) where
  abbrev v : ℕ
  v = version_of s

  answers-same : mend v [] 6 (drop 6 s) ≡ walk (top v) [] 6 (drop 6 s) → mended s ≡ verdict s
  unfolding mended verdict
  answers-same k = rw (e, k)

  answers-fault : (r : Refusal) → walk (top v) [] 6 (drop 6 s) ≡ refused r → verdict s ≡ refused r
  unfolding verdict
  answers-fault r k = rw (e, k)

  rescue-fault : (r : Refusal) → mend v [] 6 (drop 6 s) ≡ refused r → rescue s ≡ beyond r
  unfolding rescue mended
  rescue-fault r k = rw (e, k)

  rescue_saves : (before kept after : Run) → mend v [] 6 (drop 6 s) ≡ accepted (holding before kept after) → (cuts : List Cut) × (rescue s ≡ saved (file_of before kept after) cuts)
  unfolding rescue mended
  rescue_saves before kept after k = ((sifted_at (offset_of 0x3D3D 6 (holding before kept after)) s).cuts, rw (e, k, file-ends_well v before kept after))

  either : Agree v [] 6 (drop 6 s) (walk (top v) [] 6 (drop 6 s)) (mend v [] 6 (drop 6 s)) → (mended s ≡ verdict s) ⊎ FaultInScene s
  either (inl k) = inl (answers-same k)
  either (inr w) = inr record {
    fault = w.fault;
    answered = answers-fault w.fault w.answers;
    before = w.before;
    body = w.body;
    back = w.back;
    file-is = w.is;
    obeys = w.obeys;
    refuses = rw (← w.at-is) w.refuses;
    goes_on = λ r k. rescue-fault r (w.goes_on r (rw w.at-is k));
    saves = λ t k. rw (← w.at-is) (rescue_saves w.before (sift v (w.at + 6) w.body).kept t (w.saves t (rw w.at-is k)));
  }

refused-same : (s : List ℕ) (r : Refusal) → broken (file_conditions s (length_field s)) ≡ some r → mended s ≡ verdict s
unfolding mended verdict
refused-same s r e = rw e

pub first-fault : FirstFault
first-fault s b = go (broken (file_conditions s (length_field s))) refl
  where
    go : (r : Option Refusal) → broken (file_conditions s (length_field s)) ≡ r → (mended s ≡ verdict s) ⊎ FaultInScene s
    go (some r) e = inl (refused-same s r e)
    go none e =
        let l : length s ≤ limit = leb-true _ _ (met _ e).0 in
        either s e (agrees (version_of s) (suc (length (drop 6 s))) [] 6 (drop 6 s) (omega arith) (omega (arith, length-drop 6 s)) (bytes_drop 6 s b))
