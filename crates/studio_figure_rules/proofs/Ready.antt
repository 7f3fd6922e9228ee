-- What no broken condition tells of a figure, gathered for each object, group and material.
use mathlib.Core.Path.{◌≡◌, refl, subst}
use Prim.Native.Nat.{ℕ, ◌%◌, ◌^◌, ◌≤◌}
use mathlib.Core.Bool.{Bool, true, false, ◌||◌, false≢true}
use mathlib.Core.List.{List, [], ◌∷◌, ◌++◌, map}
use lib.ListN.{length}
use borrow.Author.Tests.{leb-true}
use Rattle.shared_words.specs.declared.Refusal.{Refusal}
use Rattle.shared_words.specs.Lists.{every, All, same}
use Rattle.shared_words.specs.Labels.{fits_label}
use Rattle.shared_words.specs.Floats.{finite}
use Rattle.shared_words.specs.Refusals.{limit}
use Rattle.studio_rules.specs.Rules.{all_below}
use Rattle.shared_words.specs.Conditions.{Condition, must}
use Rattle.shared_words.proofs.Bools.{and_parts}
use Rattle.shared_words.proofs.Conditions.{Met}
use Rattle.studio_write_judge.specs.Judged.{triples, not_zero}
use Rattle.studio_write_judge.proofs.Judged.{whole_row}
use Rattle.studio_figure_rules.specs.Given.{Group, Object, Material, Figure, over, object_names, material_names, all_names, group_names, all_group_names, Bits32}
use Rattle.studio_figure_rules.specs.Judged.{size_of, without_zero, is_label, one_of, differ, none_or_each, group_count, counts, floats, group_indices, indices, conditions}
use Rattle.studio_figure_rules.proofs.Lists.{every-parts}
use Rattle.shared_words.proofs.Lists.{same_true}

-- ---- conditions one after another

pub met_append : (cs ds : List Condition) → Met (cs ++ ds) → Met cs × Met ds
met_append [] ds m = (tt, m)
met_append (must b r ∷ cs) ds m = let p = met_append cs ds m.1 in ((m.0, p.0), p.1)

pub met-over : {A : Type 0} (give : A → List Condition) (xs ys : List A) → Met (over give (xs ++ ys)) → Met (over give xs) × Met (over give ys)
met-over give [] ys m = (tt, m)
met-over give (x ∷ xs) ys m =
    let p = met_append (give x) (over give (xs ++ ys)) m in
    let q = met-over give xs ys p.1 in
    (join (give x) (over give xs) p.0 q.0, q.1)
  where
    join : (cs ds : List Condition) → Met cs → Met ds → Met (cs ++ ds)
    join [] ds h k = k
    join (must b r ∷ cs) ds h k = (h.0, join cs ds h.1 k)

-- ---- names

-- a name that is one of some passes a test that they pass
one-of-passes : (test : List ℕ → Bool) (refusal : List ℕ → Refusal) (names : List (List ℕ)) (n : List ℕ) →
    Met (over (λ name. must (test name) (refusal name) ∷ []) names) → one_of names n ≡ true → test n ≡ true
one-of-passes test refusal [] n m h = absurd (false≢true h)
one-of-passes test refusal (x ∷ names) n m h = go (same x n) refl (one-of-passes test refusal names n m.1) h
  where
    go : (b : Bool) → same x n ≡ b → (one_of names n ≡ true → test n ≡ true) → (b || one_of names n) ≡ true → test n ≡ true
    go true e ih h = subst (λ (l : List ℕ). test l ≡ true) (same_true x n e) m.0
    go false e ih h = ih h

-- ---- what is ready

pub record GroupReady (f : ℕ) (g : Group) : Type 0 where
  pub no_zero : every not_zero g.name ≡ true
  pub text : fits_label g.name ≡ true
  pub few : length g.faces ≤ 65_535
  pub below : all_below f g.faces ≡ true

pub record ObjectReady (o : Object) : Type 0 where
  pub no_zero : every not_zero o.name ≡ true
  pub text : fits_label o.name ≡ true
  pub whole-vertices : length o.vertices % 3 ≡ 0
  pub few-vertices : length o.vertices ≤ 196_605
  pub whole-corners : length o.corners % 3 ≡ 0
  pub few-corners : length o.corners ≤ 196_605
  pub words : none_or_each (length o.smoothing) (triples o.corners) ≡ true
  pub bits : all_below (256 ^ 4) o.vertices ≡ true
  pub finite-bits : every finite o.vertices ≡ true
  pub below : all_below (triples o.vertices) o.corners ≡ true
  pub groups_ready : All (GroupReady (triples o.corners)) o.groups

pub record MaterialReady (m : Material) : Type 0 where
  pub no_zero : every not_zero m.name ≡ true
  pub text : fits_label m.name ≡ true

pub record Ready (f : Figure) (room : ℕ) : Type 0 where
  pub objects-ready : All ObjectReady f.objects
  pub materials_ready : All MaterialReady f.materials
  pub within-limit : size_of f ≤ limit
  pub within-room : size_of f ≤ room

-- ---- and so it is

module _ (names : List (List ℕ)) (good : Met (over without_zero names)) (texts : Met (over is_label names)) where
  groups_are : (f : ℕ) (gs : List Group) → Met (over group_count gs) → Met (over (group_indices f) gs) →
      every (one_of names) (map (λ (g : Group). g.name) gs) ≡ true → All (GroupReady f) gs
  unfolding every
  groups_are f [] c i n = tt
  groups_are f (g ∷ gs) c i n =
      let k = and_parts (one_of names g.name) _ n in (
        record {
          no_zero = one-of-passes (every not_zero) _ names g.name good k.0;
          text = one-of-passes fits_label _ names g.name texts k.0;
          few = leb-true _ _ c.0;
          below = i.0;
        },
        groups_are f gs c.1 i.1 k.1,
      )

  objects_are : (os : List Object) → Met (over without_zero (map (λ (o : Object). o.name) os)) → Met (over is_label (map (λ (o : Object). o.name) os)) → every (one_of names) (over group_names os) ≡ true →
      Met (over counts os) → Met (over floats os) → Met (over indices os) →
      every (λ (o : Object). all_below (256 ^ 4) o.vertices) os ≡ true → All ObjectReady os
  unfolding every
  objects_are [] z t n c v i b = tt
  objects_are (o ∷ os) z t n c v i b =
      let ns = every-parts (one_of names) (group_names o) (over group_names os) n in
      let cs = met_append (counts o) (over counts os) c in
      let is = met_append (indices o) (over indices os) i in
      let bs = and_parts (all_below (256 ^ 4) o.vertices) _ b in
      let vs = whole_row (length o.vertices) cs.0.0 in
      let ks = whole_row (length o.corners) cs.0.1.0 in (
        record {
          no_zero = z.0;
          text = t.0;
          whole-vertices = vs.0;
          few-vertices = vs.1;
          whole-corners = ks.0;
          few-corners = ks.1;
          words = cs.0.1.1.0;
          bits = bs.0;
          finite-bits = v.0;
          below = is.0.0;
          groups_ready = groups_are (triples o.corners) o.groups cs.0.1.1.1 is.0.1 ns.0;
        },
        objects_are os z.1 t.1 ns.1 cs.1 v.1 is.1 bs.1,
      )

materials_are : (ms : List Material) → Met (over without_zero (map (λ (m : Material). m.name) ms)) → Met (over is_label (map (λ (m : Material). m.name) ms)) → All MaterialReady ms
materials_are [] z t = tt
materials_are (m ∷ ms) z t = (record { no_zero = z.0; text = t.0 }, materials_are ms z.1 t.1)

-- the conditions of a figure that are met, each kind apart
pub record Each (f : Figure) (room : ℕ) : Type 0 where
  pub zeros : Met (over without_zero (all_names f))
  pub texts : Met (over is_label (all_names f))
  pub named : every (one_of (material_names f)) (all_group_names f) ≡ true
  pub counted : Met (over counts f.objects)
  pub numbered : Met (over floats f.objects)
  pub indexed : Met (over indices f.objects)
  pub within-limit : size_of f ≤ limit
  pub within-room : size_of f ≤ room

pub each : (f : Figure) (room : ℕ) → Met (conditions f room) → Each f room
each f room m =
    let m₁ = met_append (over without_zero (all_names f)) _ m in
    let m₂ = met_append (over is_label (all_names f)) _ m₁.1 in
    let m₃ = met_append (differ [] (object_names f)) _ m₂.1 in
    let m₄ = met_append (differ [] (material_names f)) _ m₃.1 in
    let m₅ = met_append (over counts f.objects) _ m₄.1.1 in
    let m₆ = met_append (over floats f.objects) _ m₅.1 in
    let m₇ = met_append (over indices f.objects) _ m₆.1 in
    record {
      zeros = m₁.0;
      texts = m₂.0;
      named = m₄.1.0;
      counted = m₅.0;
      numbered = m₆.0;
      indexed = m₇.0;
      within-limit = leb-true _ _ m₇.1.0;
      within-room = leb-true _ _ m₇.1.1.0;
    }

pub ready : (f : Figure) (room : ℕ) → Bits32 f → Met (conditions f room) → Ready f room
ready f room b m =
    let e = each f room m in
    let z = met-over without_zero (object_names f) (material_names f) e.zeros in
    let t = met-over is_label (object_names f) (material_names f) e.texts in
    record {
      objects-ready = objects_are (material_names f) z.1 t.1 f.objects z.0 t.0 e.named e.counted e.numbered e.indexed b;
      materials_ready = materials_are f.materials z.1 t.1;
      within-limit = e.within-limit;
      within-room = e.within-room;
    }
