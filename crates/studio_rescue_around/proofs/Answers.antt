-- What stands around 3D3D, by the two runs before and behind it.
use mathlib.Core.Path.{◌≡◌, refl, sym, ap, ◌∙◌, subst}
use Prim.Native.Nat.{ℕ, ◌+◌, ◌-◌, ◌≤◌, ◌<◌}
use native.Mathlib.Omega.{arith}
use mathlib.Core.Bool.{Bool, true, false, ◌&&◌}
use mathlib.Core.List.{List, [], ◌∷◌, append-nil}
use mathlib.Core.Option.{none}
use lib.Dec.{eqb, leb}
use lib.ListN.{length, take, drop, length-drop, drop_of_length-le}
use lib.Seq.{slice, drop-drop, take-length}
use borrow.Author.Tests.{le-leb}
use Rattle.shared_words.specs.declared.Refusal.{Refusal}
use Rattle.shared_words.specs.declared.Refusal.TheVariants.{Missing}
use Rattle.shared_words.specs.Lists.{every}
use Rattle.shared_words.specs.Bytes.{value}
use Rattle.shared_words.specs.Conditions.{broken, Answer, refused, accepted}
use Rattle.shared_words.proofs.Bools.{both, and_parts}
use Rattle.shared_words.proofs.Conditions.{unbroken, broken-here}
use Rattle.shared_numbers.proofs.Slices.{drop-take}
use Rattle.studio_rules.specs.Table.{rows, listed, shape, plus, under, limits, at_most_one_ids, needs, at_least_one_ids}
use Rattle.studio_rules.specs.Layout.{Run, end, skip, known, size, identifiers, offset_of, ◌then◌}
use Rattle.studio_rules.specs.Rules.{tally, few, none_missing}
use Rattle.studio_rules.specs.Walk.{header_conditions, child_conditions, length_field, enter, sorted, step, ended, with_known, walk, top}
use Rattle.studio_scene.specs.Passed.{passed}
use Rattle.studio_scene.proofs.Then.{identifiers_then}
use Rattle.studio_rescue_rules.specs.Rescue.{sift, mend_step, mend}
use Rattle.studio_rescue_rules.proofs.Fuel.{mend_nil}
use Rattle.studio_rescue_rules.proofs.Mend.{ends_well}
use Rattle.studio_rescue_rules.proofs.First.{file-ends_well}
use Rattle.studio_rescue_around.specs.declared.Scene.{Scene}
use Rattle.studio_rescue_around.specs.Around.{ahead, outside_of, scene_from}
use Rattle.studio_rescue_around.proofs.Splits.{prefixed, onward, Lacks, mend-step, bounds, body-length, step-whole, Reached, reached}
use Rattle.std.specs.Prelude.{Result, Err}

-- ---- identifiers

pub tally-passed : (g seen : List ℕ) (t : Run) → tally g (passed seen t) ≡ tally g (identifiers t) + tally g seen
tally-passed g seen end = omega arith
tally-passed g seen (skip id body rest) = tally-passed g seen rest
tally-passed g seen (known id own kids rest) = omega (arith, tally-passed g (id ∷ seen) rest)

-- one 3D3D more, where there is none yet
pub few-more : (seen : List ℕ) → few 0x4D4D seen ≡ true → tally (0x3D3D ∷ []) seen ≡ 0 → few 0x4D4D (0x3D3D ∷ seen) ≡ true
unfolding limits at_most_one_ids every
few-more seen h z =
    let x : Bool = leb (tally (0x0002 ∷ []) seen) 1 in
    let y : Bool = leb (tally (0x3D3D ∷ []) seen) 1 in
    let w : Bool = leb (tally (0xB000 ∷ []) seen) 1 && true in
    let a = and_parts x (y && w) h in
    let b = and_parts y w a.1 in
    let more : (g : List ℕ) → leb (tally g seen) 1 ≡ true → leb (0 + tally g seen) 1 ≡ true = λ g e. let n : 0 + tally g seen ≡ tally g seen = omega arith in rw n e in
    let one : leb (tally (0x3D3D ∷ []) (0x3D3D ∷ seen)) 1 ≡ true = le-leb (tally (0x3D3D ∷ []) (0x3D3D ∷ seen)) 1 (omega (arith, z)) in
    let c = and_parts (leb (tally (0xB000 ∷ []) seen) 1) true b.1 in
    both (leb (0 + tally (0x0002 ∷ []) seen) 1) _ (more (0x0002 ∷ []) a.0) (both (leb (tally (0x3D3D ∷ []) (0x3D3D ∷ seen)) 1) _ one (both (leb (0 + tally (0xB000 ∷ []) seen) 1) true (more (0xB000 ∷ []) c.0) refl))

-- where the first stands
offset_there : (o : ℕ) (t u k : Run) → tally (0x3D3D ∷ []) (identifiers t) ≡ 0 → offset_of 0x3D3D o (t then known 0x3D3D [] k u) ≡ o + size t
offset_there o end u k z = omega arith
offset_there o (skip id body t) u k z = offset_there (o + (6 + length body)) t u k z ∙ omega arith
offset_there o (known id own kids t) u k z = go (eqb id 0x3D3D) refl (offset_there (o + (6 + length own + size kids)) t u k)
  where
    go : (b : Bool) → eqb id 0x3D3D ≡ b → (tally (0x3D3D ∷ []) (identifiers t) ≡ 0 → offset_of 0x3D3D (o + (6 + length own + size kids)) (t then known 0x3D3D [] k u) ≡ o + (6 + length own + size kids) + size t) →
        offset_of 0x3D3D o (known id own kids (t then known 0x3D3D [] k u)) ≡ o + (6 + length own + size kids + size t)
    go true e ih = let y : 1 + tally (0x3D3D ∷ []) (identifiers t) ≡ 0 = rw e at z in absurd (omega arith)
    go false e ih = let y : 0 + tally (0x3D3D ∷ []) (identifiers t) ≡ 0 = rw e at z in rw e (ih (omega arith) ∙ omega arith)

-- ---- 3D3D itself

module _ (v : ℕ) (seen : List ℕ) (o : ℕ) (y : List ℕ) (fine : broken (header_conditions o y (length_field y)) ≡ none) (is : value (take 2 y) ≡ 0x3D3D) (f : few 0x4D4D (0x3D3D ∷ seen) ≡ true) where
  abbrev body : List ℕ
  body = take (length_field y - 6) (drop 6 y)

  abbrev rest : List ℕ
  rest = drop (length_field y) y

  opens : sorted (listed 0x3D3D) (top v) seen o 0x3D3D body rest ≡ enter 0x3D3D [] body rest
  unfolding listed rows shape plus under
  opens =
      let c : broken (child_conditions (top v) seen o 0x3D3D body 0) ≡ none = unbroken _ (refl, (f, (refl, (refl, (le-leb 0 (length body) (omega arith), (refl, (refl, (refl, (refl, tt))))))))) in
      rw c

  enters : step (top v) seen o y ≡ enter 0x3D3D [] body rest
  enters = step-whole (top v) seen o y fine ∙ rw is opens

  abbrev kept : Run
  kept = (sift v (o + 6) body).kept

  pub mends_scene : mend v seen o y ≡ with_known 0x3D3D [] (accepted kept) (walk (top v) (0x3D3D ∷ seen) (o + length_field y) rest)
  mends_scene =
      let b = bounds (top v) seen o y fine in
      let l : 6 + length body ≡ length_field y = body-length (top v) seen o y fine in
      mend-step v seen o y (omega (arith, b.0, b.1)) ∙ ap (mend_step v (mend v) seen o) enters ∙ rw (ends_well v o kept, l)

-- ---- the two runs

module _ (v : ℕ) (s : List ℕ) (at : ℕ) (six : 6 ≤ length s) (at-is : at ≡ 6 + ahead 6 (drop 6 s)) where
  abbrev m : ℕ
  m = ahead 6 (drop 6 s)

  r : Reached v [] 6 (drop 6 s) m
  r = reached v [] 6 (drop 6 s)

  pub in_file_lem : (6 ≤ at) × (at ≤ length s)
  in_file_lem = let w = r.within in omega (arith, length-drop 6 s)

  front : take m (drop 6 s) ≡ slice 6 at s
  front = sym (drop-take 6 m s) ∙ ap (λ (k : ℕ). slice 6 k s) (sym at-is)

  back : drop m (drop 6 s) ≡ drop at s
  back = drop-drop m 6 s ∙ ap (λ (k : ℕ). drop k s) (sym at-is)

  abbrev pub before : Answer Run
  before = walk (top v) [] 6 (slice 6 at s)

  split : mend v [] 6 (drop 6 s) ≡ onward before (λ t. mend v (passed [] t) at (drop at s))
  split = rw (← front, ← back, at-is) r.split.splits

  lacks : Lacks before
  lacks = rw (← front) r.split.lacks

  abbrev answer : Result Scene Refusal
  answer = outside_of s (ended (top v) 0 (mend v [] 6 (drop 6 s)))

  pub before-refused : (y : Refusal) → before ≡ refused y → Err y ≡ answer
  before-refused y e = rw (split, e)

  -- what stands before 3D3D is accepted
  module _ (t : Run) (e : before ≡ accepted t) where
    pub none_in : tally (0x3D3D ∷ []) (identifiers t) ≡ 0
    none_in = subst Lacks e lacks

    goes_on : mend v [] 6 (drop 6 s) ≡ prefixed t (mend v (passed [] t) at (drop at s))
    goes_on = rw (split, e)

    -- and there is none
    is-missing : none_missing (top v) (t then end) ≡ false
    unfolding every needs at_least_one_ids
    is-missing =
        let z : tally (0x3D3D ∷ []) (identifiers (t then end)) ≡ 0 = ap (tally (0x3D3D ∷ [])) (identifiers_then t end ∙ append-nil (identifiers t)) ∙ none_in in
        rw z

    pub no-scene : at ≡ length s → Err (Missing 0) ≡ answer
    no-scene l =
        let d : drop at s ≡ [] = drop_of_length-le s {i = at} (omega arith) in
        let q : mend v [] 6 (drop 6 s) ≡ accepted (t then end) = goes_on ∙ rw (d, mend_nil v (passed [] t) at) in
        rw (q, broken-here (none_missing (top v) (t then end)) (Missing 0) _ is-missing)

    -- and there is one
    module _ (l : at < length s) where
      fine : broken (header_conditions at (drop at s) (length_field (drop at s))) ≡ none
      fine = rw (← back, at-is) (r.there (omega (arith, length-drop 6 s))).0

      named : value (take 2 (drop at s)) ≡ 0x3D3D
      named = rw (← back) (r.there (omega (arith, length-drop 6 s))).1

      pub ends : (6 ≤ length_field (drop at s)) × (at + length_field (drop at s) ≤ length s)
      ends = let b = bounds (top v) [] at (drop at s) fine in omega (arith, b.0, b.1, length-drop at s)

      module _ (stop : ℕ) (stop_is : stop ≡ at + length_field (drop at s)) (f : few 0x4D4D (0x3D3D ∷ passed [] t) ≡ true) where
        abbrev pub behind : Answer Run
        behind = walk (top v) (0x3D3D ∷ passed [] t) stop (slice stop (length s) s)

        abbrev held : Run
        held = (sift v (at + 6) (take (length_field (drop at s) - 6) (drop 6 (drop at s)))).kept

        rest-is : drop (length_field (drop at s)) (drop at s) ≡ slice stop (length s) s
        rest-is = drop-drop (length_field (drop at s)) at s ∙ rw (stop_is, take-length s)

        whole : mend v [] 6 (drop 6 s) ≡ prefixed t (with_known 0x3D3D [] (accepted held) behind)
        whole =
            let q : mend v (passed [] t) at (drop at s) ≡ with_known 0x3D3D [] (accepted held) behind =
            mends_scene v (passed [] t) at (drop at s) fine named f ∙ rw (rest-is, stop_is) in
            goes_on ∙ ap (prefixed t) q

        pub behind-refused : (y : Refusal) → behind ≡ refused y → Err y ≡ answer
        behind-refused y k = rw (whole, k)

        pub scene-found : (u : Run) → behind ≡ accepted u → 6 + size t ≡ at → scene_from at stop ≡ answer
        scene-found u k z =
            let q : mend v [] 6 (drop 6 s) ≡ accepted (t then known 0x3D3D [] held u) = rw (whole, k) in
            let i : offset_of 0x3D3D 6 (t then known 0x3D3D [] held u) ≡ at = offset_there 6 t u held none_in ∙ z in
            rw (q, file-ends_well v t held u, i, stop_is)
