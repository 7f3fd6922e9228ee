-- The children of 4D4D mended: they obey the rules, and but for 3D3D's own children and its length they are as they were.
use mathlib.Core.Path.{◌≡◌, refl, sym, ap, ◌∙◌}
use Prim.Native.Nat.{ℕ, zero, suc, ◌+◌, ◌≤◌}
use native.Mathlib.Omega.{arith}
use mathlib.Core.Bool.{Bool, true, false}
use mathlib.Core.List.{List, [], ◌∷◌, ◌++◌, append_assoc, append-nil}
use lib.Dec.{eqb}
use lib.ListN.{length}
use borrow.Author.Tests.{eqb-true}
use Rattle.shared_words.specs.Bytes.{Bytes}
use Rattle.studio_rules.specs.Table.{plus}
use Rattle.studio_rules.specs.Layout.{Run, end, skip, known, header, size, bytes, identifiers, offset_of, ◌then◌}
use Rattle.studio_rules.specs.Rules.{Parent, inside, tally, no_child, Children, Obeys}
use Rattle.studio_rules.specs.Walk.{Step, stop, pass, enter, step, ended, with_skip, with_known, walk, top}
use Rattle.shared_words.specs.Conditions.{Answer, refused, accepted}
use Rattle.shared_words.proofs.Bools.{or_else}
use Rattle.studio_rules.proofs.Steps.{Says, Passed, Entered, step-says}
use Rattle.studio_rules.proofs.Sound.{length-bytes, Tells, Closed, Closes, ended_closes, no-child, walk-tells}
use Rattle.studio_rules.proofs.Complete.{ended-good}
use Rattle.studio_scene.specs.Scene.{holding}
use Rattle.studio_rules.proofs.Then.{then_assoc, size_then, bytes_then}
use Rattle.studio_scene.proofs.Children.{scene-children}
use Rattle.studio_scene.proofs.Holds.{own_none}
use Rattle.studio_rescue_rules.specs.Rescue.{scene, sift, around, mend_step, mend_run}
use Rattle.studio_rescue_rules.proofs.Sift.{sift-says}
use Rattle.studio_rescue_rules.proofs.Outside.{first_scene}

-- ---- what is told of the run s at o in a file of version v, of which t is what is mended

-- 3D3D in both: what stands before and after it is the same, and so is its offset
pub record Torn (v o : ℕ) (s : List ℕ) (t : Run) : Type 0 where
  pub before : Run
  pub body : List ℕ
  pub after : Run
  pub at : ℕ
  pub at-is : at ≡ o + size before
  pub body_bytes : Bytes body
  pub damaged : s ≡ bytes before ++ (header 0x3D3D (6 + length body) ++ (body ++ bytes after))
  pub is : t ≡ holding before (sift v (at + 6) body).kept after
  pub place : offset_of 0x3D3D o t ≡ at

pub record Sews (v : ℕ) (seen : List ℕ) (o : ℕ) (s : List ℕ) (t : Run) : Type 0 where
  pub obeys : Obeys (top v) seen t
  pub torn : 1 ≤ tally (0x3D3D ∷ []) (identifiers t) → Torn v o s t

abbrev pub Mends : ℕ → List ℕ → ℕ → List ℕ → Answer Run → Type 0
Mends v seen o s (refused r) = Unit
Mends v seen o s (accepted t) = Sews v seen o s t

-- behind the chunk c
torn-behind : (v o o' : ℕ) (c : Run) (s rest : List ℕ) (t : Run) → s ≡ bytes c ++ rest → o' ≡ o + size c →
    offset_of 0x3D3D o (c then t) ≡ offset_of 0x3D3D o' t → Torn v o' rest t → Torn v o s (c then t)
torn-behind v o o' c s rest t e l p w =
    let kept : Run = (sift v (w.at + 6) w.body).kept in
    record {
      before = c then w.before;
      body = w.body;
      after = w.after;
      at = w.at;
      at-is = omega (arith, w.at-is, size_then c w.before);
      body_bytes = w.body_bytes;
      damaged = e ∙ ap (λ (y : List ℕ). bytes c ++ y) w.damaged ∙ rw (bytes_then c w.before) (sym (append_assoc (bytes c) (bytes w.before) _));
      is = ap (λ (y : Run). c then y) w.is ∙ sym (then_assoc c w.before (known 0x3D3D [] kept w.after));
      place = p ∙ w.place;
    }

-- ---- one chunk more

-- a chunk that the step entered is lawful with the children that it ends with
pub lawful : (p : Parent) (seen s : List ℕ) (id : ℕ) (own kids rest : List ℕ) (k : Run) → Entered p seen s id own kids rest → Closed (inside p seen id own) kids k →
    Children (inside p seen id own) k
lawful p seen s id own kids rest k g q = q.lawful (or_else (plus id) (no_child k) (λ f. no-child k (q.is ∙ g.leaf f)))

-- 3D3D ends well, whatever is kept in it
pub ends_well : (v o : ℕ) (t : Run) → ended (scene v) o (accepted t) ≡ accepted t
ends_well v o t = ended-good (scene v) o t (scene-children 0 v t)

module _ (v : ℕ) where
  skip_mends : (seen : List ℕ) (o : ℕ) (s : List ℕ) (id : ℕ) (body rest : List ℕ) → Passed s id body rest → (a : Answer Run) →
      Mends v seen (o + (6 + length body)) rest a → Mends v seen o s (with_skip id body a)
  skip_mends seen o s id body rest g (refused r) h = tt
  skip_mends seen o s id body rest g (accepted t) h = record {
    obeys = (g.free, h.obeys);
    torn = λ n. torn-behind v o (o + (6 + length body)) (skip id body end) s rest t (sym g.is ∙ rw (append-nil body)) (omega arith) refl (h.torn n);
  }

  known_mends : (seen : List ℕ) (o : ℕ) (s : List ℕ) (id : ℕ) (own kids rest : List ℕ) → Entered (top v) seen s id own kids rest → eqb id 0x3D3D ≡ false →
      (k : Answer Run) → Closes (inside (top v) seen id own) kids k → (a : Answer Run) → Mends v (id ∷ seen) (o + (6 + length own + length kids)) rest a → Mends v seen o s (with_known id own k a)
  known_mends seen o s id own kids rest g e (refused r) q a h = tt
  known_mends seen o s id own kids rest g e (accepted k) q (refused r) h = tt
  known_mends seen o s id own kids rest g e (accepted k) q (accepted t) h =
      let z : size k ≡ length kids = sym (length-bytes k) ∙ ap length q.is in
      let o' : ℕ = o + (6 + length own + length kids) in
      let n : ℕ = 6 + length own + length kids in
      record {
        obeys = (g.lawful, lawful (top v) seen s id own kids rest k g q, q.obeys, h.obeys);
        torn = λ m.
            torn-behind v o o' (known id own k end) s rest t
            (sym g.is ∙ rw (z, q.is, append-nil kids) (ap (λ (y : List ℕ). header id n ++ y) (sym (append_assoc own kids rest))))
            (omega arith) (rw (e, z)) (h.torn (omega (arith, rw e at m)));
      }

  -- 3D3D itself
  module _ (seen : List ℕ) (o : ℕ) (s kids rest : List ℕ) (g : Entered (top v) seen s 0x3D3D [] kids rest) where
    abbrev kept : Run
    kept = (sift v (o + 6) kids).kept

    sewn : (a : Answer Run) → Tells (top v) (0x3D3D ∷ seen) rest a → Mends v seen o s (with_known 0x3D3D [] (accepted kept) a)
    sewn (refused r) h = tt
    sewn (accepted t) h =
        let n = first_scene v seen [] g.lawful in
        record {
          obeys = (g.lawful, scene-children (tally (0x3D3D ∷ []) seen) v kept, rw n (sift-says v (o + 6) kids g.kids_bytes).obeys, h.obeys);
          torn = λ n. record {
            before = end;
            body = kids;
            after = t;
            at = o;
            at-is = omega arith;
            body_bytes = g.kids_bytes;
            damaged = rw h.is (sym g.is);
            is = refl;
            place = refl;
          };
        }

    scene_mends : (a : Answer Run) → Tells (top v) (0x3D3D ∷ seen) rest a → Mends v seen o s (with_known 0x3D3D [] (ended (scene v) o (accepted kept)) a)
    scene_mends a h = rw (ends_well v o kept) (sewn a h)

-- ---- the run

module _ (v : ℕ) where
  abbrev Mending : (List ℕ → ℕ → List ℕ → Answer Run) → Type 0
  Mending go = (seen : List ℕ) (o : ℕ) (s : List ℕ) → Bytes s → Mends v seen o s (go seen o s)

  around_mends : (go : List ℕ → ℕ → List ℕ → Answer Run) → Mending go → (seen : List ℕ) (o : ℕ) (s : List ℕ) (id : ℕ) (own kids rest : List ℕ) → Entered (top v) seen s id own kids rest →
      (e : Bool) → eqb id 0x3D3D ≡ e → Mends v seen o s (around v e go seen o id own kids rest)
  around_mends go w seen o s id own kids rest g true e =
      let i = eqb-true id 0x3D3D e in
      let g₁ : Entered (top v) seen s 0x3D3D own kids rest = rw i at g in
      let z : own ≡ [] = own_none v own g₁.lawful.own_data_exact_lem in
      let g₂ : Entered (top v) seen s 0x3D3D [] kids rest = rw z at g₁ in
      let o₂ : ℕ = o + (6 + length kids) in
      rw (i, z) (scene_mends v seen o s kids rest g₂ (walk (top v) (0x3D3D ∷ seen) o₂ rest) (walk-tells (top v) (0x3D3D ∷ seen) o₂ rest g₂.rest-bytes))
  around_mends go w seen o s id own kids rest g false e =
      let q : Parent = inside (top v) seen id own in
      let o₁ : ℕ = o + (6 + length own) in
      let o₂ : ℕ = o + (6 + length own + length kids) in
      known_mends v seen o s id own kids rest g e
      (ended q o (walk q [] o₁ kids)) (ended_closes q o kids (walk q [] o₁ kids) (walk-tells q [] o₁ kids g.kids_bytes))
      (go (id ∷ seen) o₂ rest) (w (id ∷ seen) o₂ rest g.rest-bytes)

  step_mends : (go : List ℕ → ℕ → List ℕ → Answer Run) → Mending go → (seen : List ℕ) (o : ℕ) (s : List ℕ) →
      (x : Step) → Says (top v) seen s x → Mends v seen o s (mend_step v go seen o x)
  step_mends go w seen o s (stop r) g = tt
  step_mends go w seen o s (pass id body rest) g =
      let o₁ : ℕ = o + (6 + length body) in
      skip_mends v seen o s id body rest g (go seen o₁ rest) (w seen o₁ rest g.rest-bytes)
  step_mends go w seen o s (enter id own kids rest) g = around_mends go w seen o s id own kids rest g (eqb id 0x3D3D) refl

  pub run_mends : (k : ℕ) → Mending (mend_run v k)
  run_mends zero seen o s b = tt
  run_mends (suc k) seen o [] b = record { obeys = tt; torn = λ n. absurd (omega arith) }
  run_mends (suc k) seen o (x ∷ s) b = step_mends (mend_run v k) (run_mends k) seen o (x ∷ s) (step (top v) seen o (x ∷ s)) (step-says (top v) seen o (x ∷ s) b)
