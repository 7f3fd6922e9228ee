-- The walk by its steps: what is known before each, and what it comes to.
use mathlib.Core.Path.{◌≡◌, refl, sym, ap, subst, ◌∙◌}
use Prim.Native.Nat.{ℕ, suc, ◌+◌, ◌*◌, ◌<◌, ◌≤◌}
use native.Mathlib.Omega.{arith}
use mathlib.Core.Bool.{Bool, true, false, cond}
use mathlib.Core.List.{List, [], ◌∷◌}
use mathlib.Core.Option.{none, some}
use lib.ListN.{length, drop, length-drop, drop_of_length-le}
use lib.Seq.{drop-drop, drop-cons}
use Rattle.shared_words.specs.declared.Refusal.{Refusal}
use Rattle.shared_words.specs.declared.Refusal.TheVariants.{Trailing, Missing}
use Rattle.shared_words.specs.Conditions.{broken, refused, accepted}
use Rattle.cob_rules.specs.Kinds.{is_end}
use Rattle.cob_rules.specs.Layout.{Chunk, kind, size}
use Rattle.cob_rules.specs.Walk.{chunk_at, walk, step}
use Rattle.cob_rules.proofs.Fuel.{walk_nil, walk_cons}
use Rattle.cob_seen.specs.Tree.{Represents, Ready}
use Rattle.cob_chunk.specs.Chunks.{chunk_in}
use Rattle.std.specs.Prelude.{Result, Ok, Err}
use Rattle.cob_step.specs.declared.Step.{Step}
use Rattle.cob_step.specs.Steps.{EndsAt, Holds, fault_at, Goes, StepIs, Steps}
use Rattle.cob_check.specs.Walks.{Prepared, WalkIs}
use Rattle.cob_check.proofs.Lists.{with_all, onto, all-refused, all-accepted, seen-onto, length_seen, one_for, count_listed, few-listed, list_counted}

-- ---- one step, by the rules

walk-some : (seen : List Chunk) (o : ℕ) (t : List ℕ) → 0 < length t → walk seen o t ≡ step walk seen o t (chunk_at t)
walk-some seen o [] l = absurd (omega arith)
walk-some seen o (b ∷ t) l = walk_cons seen o b t

module _ (seen : List Chunk) (s : List ℕ) (at : ℕ) (l : at < length s) where
  abbrev here : Chunk
  here = chunk_in s at

  one-step : walk seen at (drop at s) ≡ step walk seen at (drop at s) here
  one-step = walk-some seen at (drop at s) (omega (arith, length-drop at s))

  step-refused : (q : Refusal) → fault_at seen s at ≡ some q → walk seen at (drop at s) ≡ refused q
  step-refused q e = one-step ∙ rw e

  step-on : (next : ℕ) → fault_at seen s at ≡ none → is_end (kind here) ≡ false → next ≡ at + size here →
      walk seen at (drop at s) ≡ with_all (here ∷ []) (walk (here ∷ seen) next (drop next s))
  step-on next e n q = one-step ∙ rw (e, n, drop-drop (size here) at s, ← q)

  step_trailing : (next : ℕ) → fault_at seen s at ≡ none → is_end (kind here) ≡ true → next ≡ at + size here → next < length s →
      walk seen at (drop at s) ≡ refused (Trailing next)
  unfolding broken
  step_trailing next e n q k = one-step ∙ rw (e, n, drop-drop (size here) at s, ← q, drop-cons s next 0 k)

  step_last : (next : ℕ) → fault_at seen s at ≡ none → is_end (kind here) ≡ true → next ≡ at + size here → length s ≤ next →
      walk seen at (drop at s) ≡ accepted record { chunks = []; last = here }
  unfolding broken
  step_last next e n q k = one-step ∙ rw (e, n, drop-drop (size here) at s, ← q, drop_of_length-le s {i = next} k)

-- ---- what is known before a step

pub record Reached (s : List ℕ) (at count records : ℕ) (ids links : List ℕ) : Type 0 where
  pub seen : List Chunk
  pub so_far : walk [] 32 (drop 32 s) ≡ with_all seen (walk seen at (drop at s))
  pub counted : suc (length seen) ≡ count
  pub listed_are : records ≡ suc (count_listed seen)
  pub tree : Represents ids links count
  pub holds : Holds ids seen
  pub far : 32 + 20 * length seen ≤ at
  pub inside : at ≤ length s

pub starts : (s ids links : List ℕ) → Prepared s ids links → 32 ≤ length s → Reached s 32 1 1 ids links
starts s ids links p l =
    record { seen = []; so_far = refl; counted = refl; listed_are = refl; tree = p.tree; holds = p.first; far = omega arith; inside = l }

module _ {s : List ℕ} {at count records : ℕ} {ids links : List ℕ} (r : Reached s at count records ids links) where
  pub missing : length s ≤ at → (ids' links' : List ℕ) → WalkIs (walk [] 32 (drop 32 s)) (Err (Missing at)) ids' links'
  missing l ids' links' =
      let e : walk [] 32 (drop 32 s) ≡ refused (Missing at) =
      r.so_far ∙ rw (drop_of_length-le s {i = at} l, walk_nil r.seen at) (all-refused r.seen (Missing at)) in
      rw e

  pub refuses : at < length s → (q : Refusal) → fault_at r.seen s at ≡ some q → (ids' links' : List ℕ) → WalkIs (walk [] 32 (drop 32 s)) (Err q) ids' links'
  refuses l q f ids' links' =
      let e : walk [] 32 (drop 32 s) ≡ refused q = r.so_far ∙ rw (step-refused r.seen s at l q f) (all-refused r.seen q) in
      rw e

  pub trails : at < length s → (next : ℕ) → fault_at r.seen s at ≡ none → is_end (kind (chunk_in s at)) ≡ true → EndsAt s at next → next < length s →
      (ids' links' : List ℕ) → WalkIs (walk [] 32 (drop 32 s)) (Err (Trailing next)) ids' links'
  trails l next f n x k ids' links' =
      let e : walk [] 32 (drop 32 s) ≡ refused (Trailing next) =
      r.so_far ∙ rw (step_trailing r.seen s at l next f n x.is k) (all-refused r.seen (Trailing next)) in
      rw e

  pub accepts : at < length s → (next : ℕ) → fault_at r.seen s at ≡ none → is_end (kind (chunk_in s at)) ≡ true → EndsAt s at next → length s ≤ next →
      (ids' links' : List ℕ) → Represents ids' links' (suc (length r.seen)) → Holds ids' r.seen →
      WalkIs (walk [] 32 (drop 32 s)) (Ok record { nodes = count; records = records }) ids' links'
  accepts l next f n x k ids' links' t h =
      let e : walk [] 32 (drop 32 s) ≡ accepted record { chunks = onto r.seen []; last = chunk_in s at } =
      r.so_far ∙ rw (step_last r.seen s at l next f n x.is k) (all-accepted r.seen [] (chunk_in s at)) in
      rw e record {
        records_are = r.listed_are ∙ sym (list_counted r.seen (chunk_in s at));
        nodes_are = sym r.counted ∙ ap suc (sym (length_seen r.seen));
        tree = subst (Represents ids' links') r.counted t;
        holds = subst (Holds ids') (sym (seen-onto r.seen (chunk_in s at))) h;
      }

  pub goes_on : at < length s → (next : ℕ) (b : Bool) (ids' links' : List ℕ) → Goes r.seen s at next b ids' links' → (more : ℕ) → more ≡ cond b 1 0 + records →
      Reached s next (count + 1) more ids' links'
  goes_on l next b ids' links' g more m =
      let c = chunk_in s at in
      let z : suc (suc (length r.seen)) ≡ count + 1 = omega (arith, r.counted) in
      let k = g.ends in
      let y : one_for c ≡ cond b 1 0 = ap (λ (x : Bool). cond x 1 0) g.listed-is in
      record {
        seen = c ∷ r.seen;
        so_far = r.so_far ∙ ap (with_all r.seen) (step-on r.seen s at l next g.good g.not_end k.is);
        counted = z;
        listed_are = omega (arith, r.listed_are);
        tree = subst (Represents ids' links') z g.tree;
        holds = g.holds;
        far = omega (arith, r.far, k.later);
        inside = k.inside;
      }

  -- ---- by what a step has told

  pub few : records ≤ count
  few = omega (arith, r.listed_are, few-listed r.seen, r.counted)

  -- there is room for one identifier more
  pub ready : {ids₀ links₀ : List ℕ} → Prepared s ids₀ links₀ → length ids ≡ length ids₀ → length links ≡ length links₀ → at < length s → Ready ids links count
  ready p i k l = record {
    tree = r.tree;
    small = omega (arith, r.far, r.counted, p.short);
    node = omega (arith, r.far, r.counted, p.nodes);
    sides = omega (arith, r.far, r.counted, p.sides);
  }

  module _ (l : at < length s) {found : Result Step Refusal} {ids' links' : List ℕ} (h : Steps s at ids links count found ids' links') where
    step_is : (f : Result Step Refusal) → found ≡ f → StepIs r.seen s at f ids' links'
    step_is f e = subst (λ (x : Result Step Refusal). StepIs r.seen s at x ids' links') e (h.told r.seen r.counted r.holds)

    pub told-refused : {q : Refusal} → found ≡ Err q → WalkIs (walk [] 32 (drop 32 s)) (Err q) ids' links'
    told-refused {q} e = refuses l q (step_is (Err q) e) ids' links'

    pub told_trailing : {next : ℕ} → found ≡ Ok (Step.Last next) → next < length s → WalkIs (walk [] 32 (drop 32 s)) (Err (Trailing next)) ids' links'
    told_trailing {next} e k = let t = step_is (Ok (Step.Last next)) e in trails l next t.0 t.1 t.2 k ids' links'

    pub told_last : {next : ℕ} → found ≡ Ok (Step.Last next) → length s ≤ next → WalkIs (walk [] 32 (drop 32 s)) (Ok record { nodes = count; records = records }) ids' links'
    told_last {next} e k = let t = step_is (Ok (Step.Last next)) e in accepts l next t.0 t.1 t.2 k ids' links' t.3 t.4

    pub told-listed : {next : ℕ} → found ≡ Ok (Step.Listed next) → Reached s next (count + 1) (records + 1) ids' links' × (at < next)
    told-listed {next} e =
        let g = step_is (Ok (Step.Listed next)) e in
        (goes_on l next true ids' links' g (records + 1) (omega arith), omega (arith, g.ends.later))

    pub told-skipped : {next : ℕ} → found ≡ Ok (Step.Skipped next) → Reached s next (count + 1) records ids' links' × (at < next)
    told-skipped {next} e =
        let g = step_is (Ok (Step.Skipped next)) e in
        (goes_on l next false ids' links' g records (omega arith), omega (arith, g.ends.later))
