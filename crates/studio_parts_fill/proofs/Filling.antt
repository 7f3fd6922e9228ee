-- A row that is filled part by part, in either way: what stands in it so far, and one part more.
use mathlib.Core.Path.{◌≡◌, refl, sym, ap, ◌∙◌, subst}
use mathlib.Core.Bool.{cond}
use mathlib.Core.Logic.{◌⊎◌, inl, inr}
use mathlib.Core.List.{List, [], ◌∷◌, ◌++◌}
use mathlib.Core.Option.{some, some-injective, some-ne-none}
use Prim.Native.Nat.{ℕ, zero, suc, ◌+◌, ◌*◌, ◌≤◌, ◌<◌, ◌^◌}
use native.Mathlib.Omega.{arith}
use lib.Dec.{eqb}
use lib.ListN.{length, get_elem?, get_or, length-append}
use lib.Seq.{length-sets}
use borrow.Author.Tests.{eq-eqb}
use Rattle.shared_words.specs.Effects.{filled}
use Rattle.shared_numbers.specs.Put.{Put}
use Rattle.shared_numbers.proofs.Put.{put-none, put_then, put_front, put-sets}
use Rattle.studio_rules.specs.OwnData.{father, root}
use Rattle.studio_rules.specs.Layout.{Run, size, child, held, offset_of}
use Rattle.studio_rules.specs.Gives.{Part, fathers_in, fathers, below, part_of, parts_from, parts}
use Rattle.studio_rules.specs.Encodings.{flat_parts}
use Rattle.studio_parts_find.specs.Parts.{PartsAt}
use Rattle.studio_parts_find.proofs.Before.{PartsBefore, none_before, all-before, Here, here, one-before}
use Rattle.studio_rules.proofs.Parts.{length_from}
use Rattle.studio_parts_find.proofs.Trees.{from-one-more, OnEarlier, next_hangs}
use Rattle.studio_parts_fill.proofs.Ways.{Way}

-- ---- parts as numbers

flat-length : (ps : List Part) → length (flat_parts ps) ≡ 2 * length ps
flat-length [] = refl
flat-length (p ∷ ps) = omega (arith, flat-length ps)

flat-more : (ps : List Part) (q : Part) → flat_parts (ps ++ (q ∷ [])) ≡ flat_parts ps ++ (q.father ∷ q.depth ∷ [])
flat-more [] q = refl
flat-more (p ∷ ps) q = ap (λ (l : List ℕ). p.father ∷ p.depth ∷ l) (flat-more ps q)

flat_depth : (ps : List Part) (i : ℕ) (q : Part) → get_elem? ps i ≡ some q → get_or (flat_parts ps) (2 * i + 1) 0 ≡ q.depth
flat_depth [] i q h = absurd (some-ne-none q (sym h))
flat_depth (p ∷ ps) zero q h = ap (λ (r : Part). r.depth) (some-injective p q h)
flat_depth (p ∷ ps) (suc i) q h =
    let e : 2 * suc i + 1 ≡ suc (suc (2 * i + 1)) = omega arith in
    ap (λ (k : ℕ). get_or (p.father ∷ p.depth ∷ flat_parts ps) k 0) e ∙ flat_depth ps i q h

-- ---- the row so far

module _ (way : Way) (s : List ℕ) (kids : Run) (from stop : ℕ) (q : PartsAt s kids from stop) (row₀ : List ℕ) where
  -- the parts before `at` stand in the row, up to `next`
  pub record Filling (row : List ℕ) (next at : ℕ) : Type 0 where
    pub done : List ℕ
    pub before : PartsBefore q.p (held 0xB000 kids) s stop done at
    pub put : Put row₀ 0 (way.enc (flat_parts (parts_from [] done))) row next
    pub same : length row ≡ length row₀

  pub fill_none : (at : ℕ) → at ≡ offset_of 0xB002 from (held 0xB000 kids) → Filling row₀ 0 at
  fill_none at e = record {
    done = [];
    before = none_before q.p (held 0xB000 kids) s stop from at q.spans e;
    put = subst (λ (xs : List ℕ). Put row₀ 0 xs row₀ 0) (sym way.none) (put-none row₀ 0);
    same = refl;
  }

  module _ (row : List ℕ) (next at : ℕ) (w : Filling row next at) where
    abbrev ps : List Part
    ps = parts_from [] w.done

    many : length (parts_from [] w.done) ≡ length w.done
    many = length_from [] w.done ∙ omega arith

    pub next-is : next ≡ way.width * (2 * length w.done)
    next-is =
        let z : 0 + length (way.enc (flat_parts ps)) ≡ length (way.enc (flat_parts ps)) = omega arith in
        w.put.ends ∙ z ∙ way.long (flat_parts ps) ∙ ap (λ (k : ℕ). way.width * k) (flat-length ps ∙ ap (λ (k : ℕ). 2 * k) many)

    pub fill-all : stop ≤ at → row ≡ filled (way.enc (flat_parts (parts kids))) row₀
    fill-all l =
        put_front w.put ∙
        ap (λ (fs : List ℕ). filled (way.enc (flat_parts (parts_from [] fs))) row₀) (sym (all-before q.p (held 0xB000 kids) s stop w.done at w.before l))

    -- the part at hand
    module _ (l : at < stop) where
      abbrev pub hand : Here q.p (held 0xB000 kids) s stop w.done at w.before
      hand = here q.p (held 0xB000 kids) s stop w.done at w.before l

      abbrev f : ℕ
      f = father (child 0xB010 hand.kids)

      hangs : (f ≡ root) ⊎ OnEarlier (parts_from [] w.done) f
      hangs = next_hangs s kids q.meets w.done (fathers_in hand.rest) f hand.split

      -- there is room for it
      pub still : length w.done < length (parts kids)
      still = omega (arith, length_from [] (fathers kids), ap length hand.split ∙ length-append w.done (f ∷ fathers_in hand.rest))

      -- the depth of its father, as it is read from the row
      read_back : (o : OnEarlier (parts_from [] w.done) f) → way.read row (2 * f + 1) ≡ o.its.depth
      read_back o =
          let d = flat_depth ps f o.its o.is in
          way.reads (flat_parts ps) row₀ row next (2 * f + 1) w.put (omega (arith, flat-length ps, o.earlier))
          (omega (arith, d, o.shallow, o.earlier, many, w.before.few, l, q.spans.stands.stays, q.spans.stands.small)) ∙ d

      can_be_read : (f ≡ root → ⊥) → (f < length w.done) × (way.read row (2 * f + 1) + 1 < 2 ^ 32)
      can_be_read ne = go hangs
        where
          go : (f ≡ root) ⊎ OnEarlier (parts_from [] w.done) f → (f < length w.done) × (way.read row (2 * f + 1) + 1 < 2 ^ 32)
          go (inl e) = absurd (ne e)
          go (inr o) =
              (omega (arith, o.earlier, many), omega (arith, read_back o, o.shallow, o.earlier, many, w.before.few, l, q.spans.stands.stays, q.spans.stands.small))

      depth_is : cond (eqb f root) 0 (way.read row (2 * f + 1) + 1) ≡ (part_of (parts_from [] w.done) f).depth
      depth_is = go hangs
        where
          go : (f ≡ root) ⊎ OnEarlier (parts_from [] w.done) f → cond (eqb f root) 0 (way.read row (2 * f + 1) + 1) ≡ cond (eqb f root) 0 (below (get_elem? (parts_from [] w.done) f))
          go (inl e) = rw (eq-eqb f root e)
          go (inr o) = let z : way.read row (2 * f + 1) + 1 ≡ suc o.its.depth = omega (arith, read_back o) in rw (o.is, z)

      -- its father is told as g
      module _ (g : ℕ) (told : g ≡ father (child 0xB010 hand.kids)) where
        pub father-read : (g ≡ root → ⊥) → (g < length w.done) × (way.read row (2 * g + 1) + 1 < 2 ^ 32)
        father-read = rw told can_be_read

        -- and its numbers are put behind the others
        module _ (d : ℕ) (e : d ≡ cond (eqb g root) 0 (way.read row (2 * g + 1) + 1)) (row' : List ℕ) (next' : ℕ) (p : Put row next (way.enc (g ∷ d ∷ [])) row' next') (fits : next + way.width * 2 ≤ length row) where
          one_more : flat_parts (parts_from [] (w.done ++ (f ∷ []))) ≡ flat_parts ps ++ (g ∷ d ∷ [])
          one_more =
              let k : d ≡ (part_of ps f).depth = e ∙ rw told depth_is in
              ap flat_parts (from-one-more w.done f) ∙ flat-more ps (part_of ps f) ∙ rw (told, k)

          same' : length row' ≡ length row
          same' = ap length (put-sets (omega (arith, fits, way.long (g ∷ d ∷ []))) p) ∙ length-sets row next (way.enc (g ∷ d ∷ []))

          pub fill_one : (at' : ℕ) → at' ≡ offset_of 0xB002 (at + (6 + length hand.own + size hand.kids)) hand.rest → Filling row' next' at'
          fill_one at' h = record {
            done = w.done ++ (f ∷ []);
            before = one-before q.p (held 0xB000 kids) s stop w.done at w.before hand at' h;
            put = subst (λ (xs : List ℕ). Put row₀ 0 xs row' next') (sym (ap way.enc one_more ∙ way.more (flat_parts ps) (g ∷ d ∷ []))) (put_then (omega arith) w.put p);
            same = same' ∙ w.same;
          }
