-- Every 4100 stands in a 4000, whose own data is a name with its zero: so the meshes of a layout that stands in a file have their names there.
use Rattle.std.specs.Prelude.{Ok, Err}
use mathlib.Core.Path.{◌≡◌, refl, sym, ap, subst, ◌∙◌}
use mathlib.Core.Bool.{Bool, true, false, cond, ◌||◌}
use mathlib.Core.List.{List, [], ◌∷◌, ◌++◌, append-nil}
use mathlib.Core.Option.{Option, none, some}
use Prim.Native.Nat.{ℕ, zero, suc, ◌+◌, ◌-◌, ◌<◌}
use native.Mathlib.Omega.{arith}
use lib.Dec.{eqb}
use lib.ListN.{length, take, get_or, get_elem?, length-drop, length-append}
use borrow.Author.Tests.{eqb-true}
use Rattle.shared_words.specs.declared.Refusal.{Refusal}
use Rattle.shared_words.specs.declared.Refusal.TheVariants.{NoSuchMesh}
use Rattle.shared_words.specs.Bytes.{Bytes}
use Rattle.shared_words.specs.Conditions.{Answer, refused, accepted}
use Rattle.shared_words.specs.Lists.{All, among}
use Rattle.shared_words.specs.Picked.{pick_mesh}
use Rattle.shared_words.proofs.Lists.{all_append}
use Rattle.studio_rules.specs.declared.Span.{Span}
use Rattle.studio_rules.specs.Table.{rows, under, shape, name}
use Rattle.studio_rules.specs.OwnData.{name_size, own_size, text}
use Rattle.studio_rules.specs.Layout.{Run, end, skip, known, figure, size, bytes}
use Rattle.studio_rules.specs.Rules.{Parent, inside, file, version, Obeys, Meets}
use Rattle.studio_rules.specs.Walk.{verdict}
use Rattle.studio_rules.specs.Gives.{Mesh, one_mesh, mesh_of, meshes_of, meshes}
use Rattle.studio_rules.specs.Calls.{of_mesh, name_of, name_call}
use Rattle.studio_rules.proofs.Verdict.{accepted_exactly}
use Rattle.studio_figure_rules.proofs.Stands.{Stands, skip-stands, own_stands, kids_stand, rest-stands}
use Rattle.claim_places.specs.Names.{NameStands, NamesPoint}
use Rattle.claim_demands.proofs.Refused.{never-ok, same_ok}

-- ---- the table

among_one : (x y : ℕ) → among x (y ∷ []) ≡ true → x ≡ y
among_one x y h = go (eqb x y) refl h
  where
    go : (b : Bool) → eqb x y ≡ b → (b || false) ≡ true → x ≡ y
    go true e k = eqb-true x y e
    go false e k = let z : ◌≡◌ {A = ℕ} 0 1 = cc in absurd (omega arith)

mesh_in-object : (p : ℕ) → under p 0x4100 ≡ true → p ≡ 0x4000
unfolding under rows
mesh_in-object p h = among_one p 0x4000 h

object-named : shape 0x4000 ≡ name
unfolding shape rows
object-named = refl

-- ---- a name with its zero

abbrev Ends : List ℕ → List ℕ → Type 0
Ends own more = (0 < length own) × (text (own ++ more) ≡ take (length own - 1) (own ++ more)) × (get_or (own ++ more) (length own - 1) 0 ≡ 0)

name-ends : (own more : List ℕ) → name_size own ≡ length own → Ends own more
name-ends [] more h = let z : ◌≡◌ {A = ℕ} 0 1 = omega arith in absurd (omega arith)
name-ends (b ∷ bs) more h = go (eqb b 0) refl h (λ k. name-ends bs more k)
  where
    go : (t : Bool) → eqb b 0 ≡ t → cond t 1 (suc (name_size bs)) ≡ suc (length bs) → (name_size bs ≡ length bs → Ends bs more) →
        (0 < suc (length bs)) × (cond t [] (b ∷ text (bs ++ more)) ≡ take (suc (length bs) - 1) (b ∷ (bs ++ more))) × (get_or (b ∷ (bs ++ more)) (suc (length bs) - 1) 0 ≡ 0)
    go true e k ih = ends (length bs) (omega arith)
      where
        ends : (n : ℕ) → n ≡ 0 → (0 < suc n) × (◌≡◌ {A = List ℕ} [] (take (suc n - 1) (b ∷ (bs ++ more)))) × (get_or (b ∷ (bs ++ more)) (suc n - 1) 0 ≡ 0)
        ends zero q = (omega arith, refl, eqb-true b 0 e)
        ends (suc n) q = absurd (omega arith)
    go false e k ih =
        let i = ih (omega arith) in
        ends (length bs) refl i.0 i.1 i.2
      where
        ends : (n : ℕ) → length bs ≡ n → 0 < n → text (bs ++ more) ≡ take (n - 1) (bs ++ more) → get_or (bs ++ more) (n - 1) 0 ≡ 0 →
            (0 < suc n) × (b ∷ text (bs ++ more) ≡ take (suc n - 1) (b ∷ (bs ++ more))) × (get_or (b ∷ (bs ++ more)) (suc n - 1) 0 ≡ 0)
        ends zero q l a c = absurd (omega arith)
        ends (suc n) q l a c =
            let d : suc (suc n) - 1 ≡ suc n = omega arith in
            let f : suc n - 1 ≡ n = omega arith in
            (omega arith, rw d (ap (λ (x : List ℕ). b ∷ x) (rw f at a)), rw d (rw f at c))

-- an object that stands at `at` has its name there
object-name : (s : List ℕ) (at : ℕ) (own : List ℕ) (kids rest : Run) (more : List ℕ) → Stands s at (known 0x4000 own kids rest) more → name_size own ≡ length own →
    NameStands s (at + 6) (length own - 1)
object-name s at own kids rest more h e =
    let o = own_stands s at 0x4000 own kids rest more h in
    let n = name-ends own (bytes kids ++ (bytes rest ++ more)) e in
    let l = ap length o in
    let back : at + 6 - 6 ≡ at = omega arith in
    record {
      behind-header = omega arith;
      of-object = rw back (ap (take 2) h);
      text-there = rw o n.1;
      in_file_lem = omega (arith, n.0, length-drop (at + 6) s, length-append own (bytes kids ++ (bytes rest ++ more)));
      zero-behind = rw o n.2;
    }

-- ---- the meshes of a layout

abbrev Named-there : List ℕ → Mesh → Type 0
Named-there s m = NameStands s m.name_at m.name_length

meshes-named : (s : List ℕ) (p : Parent) (seen : List ℕ) (at name_at name_length : ℕ) (t : Run) (more : List ℕ) → Stands s at t more → Obeys p seen t →
    (p.id ≡ 0x4000 → NameStands s name_at name_length) → All (Named-there s) (meshes_of at name_at name_length t)
meshes-named s p seen at name_at name_length end more h o g = tt
meshes-named s p seen at name_at name_length (skip id body rest) more h o g =
    meshes-named s p seen (at + (6 + length body)) name_at name_length rest more (skip-stands s at id body rest more h) o.1 g
meshes-named s p seen at name_at name_length (known id own kids rest) more h o g =
    all_append (Named-there s) (one_mesh (eqb id 0x4100) (mesh_of name_at name_length kids)) _ (one (eqb id 0x4100) refl)
    (all_append (Named-there s) (meshes_of (at + (6 + length own)) (at + 6) (length own - 1) kids) _
    (meshes-named s (inside p seen id own) [] (at + (6 + length own)) (at + 6) (length own - 1) kids (bytes rest ++ more) (kids_stand s at id own kids rest more h) o.2 here)
    (meshes-named s p (id ∷ seen) (at + (6 + length own + size kids)) name_at name_length rest more (rest-stands s at id own kids rest more h) o.3 g))
  where
    one : (b : Bool) → eqb id 0x4100 ≡ b → All (Named-there s) (one_mesh b (mesh_of name_at name_length kids))
    one false e = tt
    one true e =
        let i : id ≡ 0x4100 = eqb-true id 0x4100 e in
        (g (mesh_in-object p.id (subst (λ (x : ℕ). under p.id x ≡ true) i o.0.in_place)), tt)

    here : id ≡ 0x4000 → NameStands s (at + 6) (length own - 1)
    here i =
        let exact : eqb (own_size (shape id) p.own own) (length own) ≡ true = o.0.own_data_exact_lem in
        let named : eqb (name_size own) (length own) ≡ true = subst (λ x. eqb (own_size x p.own own) (length own) ≡ true) (ap shape i ∙ object-named) exact in
        object-name s at own kids rest more (subst (λ (x : ℕ). Stands s at (known x own kids rest) more) i h) (eqb-true (name_size own) (length own) named)

all_named : (s : List ℕ) (kids : Run) → Meets s kids → All (Named-there s) (meshes kids)
all_named s kids m =
    meshes-named s (file (version kids)) [] 0 0 0 (figure kids) [] (sym m.is ∙ sym (append-nil (bytes (figure kids)))) m.chunks
    (λ e. let z : 0x1_0000 ≡ 0x4000 = e in absurd (omega arith))

-- ---- the call

pub picked : {A : Type 0} (P : A → Type 0) (xs : List A) (k : ℕ) (x : A) → All P xs → get_elem? xs k ≡ some x → P x
picked P [] k x a h = let z : ◌≡◌ {A = ℕ} 0 1 = cc in absurd (omega arith)
picked P (y ∷ xs) zero x a h = let e : y ≡ x = cc in subst P e a.0
picked P (y ∷ xs) (suc k) x a h = picked P xs k x a.1 h

-- an answer z that no refusal gives: the layout, the mesh, and what is made of it
pub mesh-found : {Z : Type 0} (s : List ℕ) → Bytes s → (refuse : Refusal → Z) (use-it : Mesh → Z) (k : ℕ) (z : Z) → ((r : Refusal) → refuse r ≡ z → ⊥) →
    of_mesh refuse use-it k (verdict s) ≡ z → (kids : Run) × Meets s kids × ((m : Mesh) × (get_elem? (meshes kids) k ≡ some m) × (use-it m ≡ z))
mesh-found {Z} s b refuse use-it k z never h = go (verdict s) refl h
  where
    pick : (kids : Run) (o : Option Mesh) → get_elem? (meshes kids) k ≡ o → pick_mesh refuse use-it (length (meshes kids)) o ≡ z → (m : Mesh) × (get_elem? (meshes kids) k ≡ some m) × (use-it m ≡ z)
    pick kids none e q = absurd (never (NoSuchMesh (length (meshes kids))) q)
    pick kids (some m) e q = (m, e, q)

    go : (a : Answer Run) → verdict s ≡ a → of_mesh refuse use-it k a ≡ z → (kids : Run) × Meets s kids × ((m : Mesh) × (get_elem? (meshes kids) k ≡ some m) × (use-it m ≡ z))
    go (refused r) e q = absurd (never r q)
    go (accepted kids) e q = (kids, (accepted_exactly s b kids).0 e, pick kids (get_elem? (meshes kids) k) refl q)

pub names-point : NamesPoint
unfolding name_call
names-point s b mesh span h =
    let f = mesh-found s b Err name_of mesh (Ok span) (never-ok span) h in
    let m = f.2 in
    let there = picked (Named-there s) (meshes f.0) mesh m.0 (all_named s f.0 f.1) m.1 in
    let e : record { offset = m.0.name_at; size = m.0.name_length } ≡ span = sym (same_ok m.2) in
    subst (λ (x : Span). NameStands s x.offset x.size) e there
