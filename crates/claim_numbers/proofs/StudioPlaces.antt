-- A refusal's place lies in the 3D Studio file, and what is accepted is no longer than the file: by the walk, whatever the bytes are.
use mathlib.Core.Path.{◌≡◌, refl}
use Prim.Native.Nat.{ℕ, zero, suc, ◌+◌, ◌-◌, ◌≤◌}
use native.Mathlib.Omega.{arith}
use mathlib.Core.Bool.{Bool, true, false, cond}
use mathlib.Core.List.{List, [], ◌∷◌}
use mathlib.Core.Option.{Option, none, some}
use lib.Dec.{eqb}
use lib.ListN.{length, take, drop, length-take, length-drop}
use borrow.Author.Tests.{leb-true, leb-false}
use borrow.Author.Rules.{rules}
use Rattle.shared_words.specs.declared.Refusal.{Refusal}
use Rattle.shared_words.specs.Refusals.{limit, place_of}
use Rattle.shared_words.specs.Bytes.{value}
use Rattle.shared_words.specs.Conditions.{broken, Answer, refused, accepted}
use Rattle.shared_words.proofs.Conditions.{met}
use Rattle.studio_rules.specs.Table.{listed, shape}
use Rattle.studio_rules.specs.OwnData.{own_size}
use Rattle.studio_rules.specs.Layout.{Run, end, skip, known, figure, size, offset_of}
use Rattle.studio_rules.specs.Rules.{Parent, inside}
use Rattle.studio_rules.specs.Walk.{Step, stop, pass, enter, file_conditions, header_conditions, child_conditions, end_conditions, opened, sorted, parted, length_field, step, ended, with_skip, with_known, taken, run, walk, version_in, top, figure_at, verdict}
use Rattle.claim_numbers.proofs.Conditions.{Asked, asked, PlaceTo, broken_to, AnswerTo, unless_to, unless-met}

-- ---- one step, at offset o of a run of n bytes

abbrev StepIn : ℕ → ℕ → Step → Type 0
StepIn o n (stop r) = place_of r ≤ o + n
StepIn o n (pass id body rest) = 6 + length body + length rest ≤ n
StepIn o n (enter id own kids rest) = 6 + length own + length kids + length rest ≤ n

opened_in : (o n id : ℕ) (body rest : List ℕ) (k : ℕ) → 6 + length body + length rest ≤ n → (r : Option Refusal) → PlaceTo (o + n) r → StepIn o n (opened id body rest k r)
opened_in o n id body rest k l (some r) h = h
opened_in o n id body rest k l none h = omega (arith, length-take k body, length-drop k body)

sorted_in : (e : Bool) (p : Parent) (seen : List ℕ) (o n id : ℕ) (body rest : List ℕ) → 6 + length body + length rest ≤ n → StepIn o n (sorted e p seen o id body rest)
sorted_in true p seen o n id body rest l =
    opened_in o n id body rest (own_size (shape id) p.own body) l (broken (child_conditions p seen o id body (own_size (shape id) p.own body)))
    (broken_to (o + n) (child_conditions p seen o id body (own_size (shape id) p.own body)) (search rules))
sorted_in false p seen o n id body rest l = l

parted_in : (p : Parent) (seen : List ℕ) (o : ℕ) (s : List ℕ) (id n : ℕ) (r : Option Refusal) → broken (header_conditions o s n) ≡ r → PlaceTo (o + length s) r →
    StepIn o (length s) (parted p seen o s id n r)
parted_in p seen o s id n (some r) e h = h
parted_in p seen o s id n none e h =
    let t = met _ e in
    let l₁ : 6 ≤ length s = leb-true _ _ t.0 in
    let l₂ : 6 ≤ n = leb-true _ _ t.1.0 in
    let l₃ : n ≤ length s = leb-true _ _ t.1.1.0 in
    sorted_in (listed id) p seen o (length s) id (take (n - 6) (drop 6 s)) (drop n s)
    (omega (arith, length-take (n - 6) (drop 6 s), length-drop 6 s, length-drop n s))

step_in : (p : Parent) (seen : List ℕ) (o : ℕ) (s : List ℕ) → StepIn o (length s) (step p seen o s)
unfolding step
step_in p seen o s =
    parted_in p seen o s (value (take 2 s)) (length_field s) (broken (header_conditions o s (length_field s))) refl
    (broken_to (o + length s) (header_conditions o s (length_field s)) (search rules))

-- ---- a run of n bytes at offset o

abbrev pub RunIn : ℕ → ℕ → Answer Run → Type 0
RunIn o n a = AnswerTo (o + n) (λ (t : Run). size t ≤ n) a

either : (b : Bool) {x y n : ℕ} → x ≤ n → y ≤ n → cond b x y ≤ n
either true h k = h
either false h k = k

offset_in_lem : (x o : ℕ) (t : Run) → offset_of x o t ≤ o + size t
offset_in_lem x o end = omega arith
offset_in_lem x o (skip id body rest) = omega (arith, offset_in_lem x (o + (6 + length body)) rest)
offset_in_lem x o (known id own kids rest) =
    either (eqb id x) (omega arith) (omega (arith, offset_in_lem x (o + (6 + length own + size kids)) rest))

-- the chunk q at o, whose children are n bytes
ended_in : (q : Parent) (o n : ℕ) (a : Answer Run) → RunIn (o + (6 + length q.own)) n a → RunIn (o + (6 + length q.own)) n (ended q o a)
ended_in q o n (refused r) h = h
ended_in q o n (accepted t) h =
    let at = o + (6 + length q.own) in
    let f = offset_in_lem 0x4120 at t in
    let m = offset_in_lem 0x4140 at t in
    unless-met (λ (u : Run). size u ≤ n) (at + n) (end_conditions q o t) (accepted t) (omega arith, (omega arith, (omega arith, tt))) (λ _. h)

skip_in : (o n id : ℕ) (body : List ℕ) (m : ℕ) → 6 + length body + m ≤ n → (a : Answer Run) → RunIn (o + (6 + length body)) m a → RunIn o n (with_skip id body a)
skip_in o n id body m l (refused r) h = omega arith
skip_in o n id body m l (accepted t) h = omega arith

known_in : (o n id : ℕ) (own : List ℕ) (k m : ℕ) → 6 + length own + k + m ≤ n → (a : Answer Run) → RunIn (o + (6 + length own)) k a →
    (b : Answer Run) → RunIn (o + (6 + length own + k)) m b → RunIn o n (with_known id own a b)
known_in o n id own k m l (refused r) h b i = omega arith
known_in o n id own k m l (accepted kids) h (refused r) i = omega arith
known_in o n id own k m l (accepted kids) h (accepted t) i = omega arith

taken_in : (go : Parent → List ℕ → ℕ → List ℕ → Answer Run) → ((p : Parent) (seen : List ℕ) (o : ℕ) (s : List ℕ) → RunIn o (length s) (go p seen o s)) →
    (p : Parent) (seen : List ℕ) (o n : ℕ) (x : Step) → StepIn o n x → RunIn o n (taken go p seen o x)
taken_in go h p seen o n (stop r) l = l
taken_in go h p seen o n (pass id body rest) l =
    skip_in o n id body (length rest) l (go p seen (o + (6 + length body)) rest) (h p seen (o + (6 + length body)) rest)
taken_in go h p seen o n (enter id own kids rest) l =
    let q = inside p seen id own in
    let inner = go q [] (o + (6 + length own)) kids in
    known_in o n id own (length kids) (length rest) l (ended q o inner) (ended_in q o (length kids) inner (h q [] (o + (6 + length own)) kids))
    (go p (id ∷ seen) (o + (6 + length own + length kids)) rest) (h p (id ∷ seen) (o + (6 + length own + length kids)) rest)

run_in : (k : ℕ) (p : Parent) (seen : List ℕ) (o : ℕ) (s : List ℕ) → RunIn o (length s) (run k p seen o s)
run_in zero p seen o s = omega arith
run_in (suc k) p seen o [] = omega arith
run_in (suc k) p seen o (b ∷ bs) = taken_in (run k) (run_in k) p seen o (length (b ∷ bs)) (step p seen o (b ∷ bs)) (step_in p seen o (b ∷ bs))

pub walk_in : (p : Parent) (seen : List ℕ) (o : ℕ) (s : List ℕ) → RunIn o (length s) (walk p seen o s)
unfolding walk
walk_in p seen o s = run_in (suc (length s)) p seen o s

-- ---- the file

abbrev pub Within : Answer Run → Type 0
Within a = AnswerTo limit (λ (kids : Run). size (figure kids) ≤ limit) a

file-asked : {P : Type 0} (s : List ℕ) (n : ℕ) → (length s ≤ limit → 6 ≤ length s → P) → Asked limit P (file_conditions s n)
file-asked s n p =
    (λ _. omega arith, λ l. (λ _. omega arith, λ six. (λ _. omega arith, λ _. (λ _. omega arith, λ _. (λ _. omega arith, λ _. (λ t. omega (arith, leb-true (length s) limit l, leb-false (length s) n t), λ _. p (leb-true _ _ l) (leb-true _ _ six)))))))

pub file_to : (s : List ℕ) (n : ℕ) → PlaceTo limit (broken (file_conditions s n))
file_to s n = asked Unit limit (file_conditions s n) (file-asked s n (λ _ _. tt))

within : (version : ℕ) (s : List ℕ) → 6 + length s ≤ limit → Within (figure_at (top version) s)
within version s l =
    let q = top version in
    go (ended q 0 (walk q [] 6 s)) (ended_in q 0 (length s) (walk q [] 6 s) (walk_in q [] 6 s))
  where
    go : (a : Answer Run) → RunIn 6 (length s) a → Within a
    go (refused r) h = omega arith
    go (accepted kids) h = omega arith

pub verdict-within : (s : List ℕ) → Within (verdict s)
unfolding verdict
verdict-within s =
    let body = drop 6 s in
    unless_to (λ (kids : Run). size (figure kids) ≤ limit) limit (file_conditions s (length_field s)) (figure_at (top (version_in body)) body)
    (file-asked s (length_field s) (λ l six. within (version_in body) body (omega (arith, length-drop 6 s))))
