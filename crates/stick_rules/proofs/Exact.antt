-- A stick passes exactly when it is good.
use Rattle.std.specs.Prelude.{Ok, Err}
use mathlib.Core.Path.{◌≡◌, refl, sym, ap, ◌∙◌}
use mathlib.Core.Bool.{Bool, true, false, not, ◌&&◌, false≢true, true≢false, and-true, and-false, cond}
use mathlib.Core.List.{List, [], ◌∷◌, ◌++◌}
use mathlib.Core.Option.{Option, none, some}
use Prim.Native.Nat.{ℕ, suc, ◌+◌, ◌<◌, ◌≤◌}
use native.Mathlib.Omega.{arith}
use lib.Dec.{eqb}
use lib.ListN.{length}
use borrow.Author.Tests.{eqb-true, eqb-false, eq-eqb, ne_eqb, ltb-true, lt-ltb, le-leb, leb-true, not-true}
use Rattle.shared_words.specs.Lists.{All}
use Rattle.shared_words.proofs.Bools.{both, and_parts}
use Rattle.slip_rules.specs.Slip.{Entry}
use Rattle.shared_words.specs.declared.Refusal.TheVariants.{Incomplete}
use Rattle.shared_words.specs.Conditions.{Condition, must, answered, broken}
use Rattle.stick_rules.specs.Items.{Item, is_file, is_folder, has_path, is_read, has_own_reader, is_accepted, has_length_of, has_sums_of}
use Rattle.stick_rules.specs.Judge.{entry_index, entry_of, index_of, entry_is, Target, up_to_of, target_of, is_target, is_matched, is_unmatched, root_conditions}
use Rattle.stick_rules.specs.Judge.{file_conditions, folder_conditions, item_conditions, matching, items_conditions, matched_by, entry_conditions}
use Rattle.stick_rules.specs.Judge.{is_whole, figure_conditions, rest_conditions, judgement}
use Rattle.stick_rules.specs.Theorems.{Agrees, Leads, InOrder, is_file_no, files_no, targeting, Good, PassesExactly}
use Rattle.stick_rules.specs.Theorems.InOrder.{folder, file}
use Rattle.stick_rules.proofs.Answers.{never, all-met, none-wrong, goes_on, both-good}
use Rattle.stick_rules.proofs.Places.{once-true, once-false, once-most, one_more, has_place, all-matched, matched-all, once}

-- ---- one item

entry-agrees : (es : List Entry) (t : Item) (o : Option Entry) → entry_of es t.path ≡ o → is_file t ≡ true → has_path t ≡ true →
    entry_is has_length_of o t ≡ true → is_read t ≡ true → has_own_reader t ≡ true → entry_is has_sums_of o t ≡ true → is_accepted t ≡ true → InOrder es t
entry-agrees es t none q f w l r j a x = absurd (false≢true a)
entry-agrees es t (some e) q f w l r j a x =
    file e f w q (record { agree = both (has_length_of e t) (has_sums_of e t) l a; whole = r; judged = eqb-true _ _ j; accepted = ltb-true _ _ x })

in_order : (es : List Entry) (matched' : List Target) (n : ℕ) (t : Item) → answered (item_conditions es matched' n t) ≡ (Ok tt) → InOrder es t
unfolding item_conditions
in_order es matched' n t h = go (is_file t) refl h
  where
    go : (b : Bool) → is_file t ≡ b → answered (cond b (file_conditions es matched' n t) (folder_conditions es matched' n t)) ≡ (Ok tt) → InOrder es t
    go true f h =
        let m = all-met (file_conditions es matched' n t) h in
        let e = m.1.1.1 in
        entry-agrees es t (entry_of es t.path) refl f m.0 e.0 e.1.0 e.1.1.0 e.1.1.1.0 e.1.1.1.1.0
    go false f h =
        let m = all-met (folder_conditions es matched' n t) h in
        let e = m.1.1.1 in
        let l : index_of es t < length es = ltb-true _ _ e.1.0 in
        folder m.0 (record { below = m.1.0; short = m.1.1.0; free = leb-true _ _ e.0; leads = rw f at l; was-listed = e.1.1.1.0 })

-- none before it has met the same
first-matched : (es : List Entry) (matched' : List Target) (n : ℕ) (t : Item) → answered (item_conditions es matched' n t) ≡ (Ok tt) →
    is_matched (index_of es t) (up_to_of t) matched' ≡ false
unfolding item_conditions
first-matched es matched' n t h = not-true _ (go (is_file t) h)
  where
    go : (b : Bool) → answered (cond b (file_conditions es matched' n t) (folder_conditions es matched' n t)) ≡ (Ok tt) → is_unmatched es matched' t ≡ true
    go true h = (all-met (file_conditions es matched' n t) h).1.1.0
    go false h = (all-met (folder_conditions es matched' n t) h).1.1.1.1.1.0

-- ---- all items

all-in_order : (es : List Entry) (matched' : List Target) (n : ℕ) (ts : List Item) → answered (items_conditions es matched' n ts) ≡ (Ok tt) → All (InOrder es) ts
unfolding items_conditions
all-in_order es matched' n [] h = tt
all-in_order es matched' n (t ∷ ts) h =
    let b = both-good (item_conditions es matched' n t) (items_conditions es (matching es matched' t) (suc n) ts) h in
    (in_order es matched' n t b.0, all-in_order es (matching es matched' t) (suc n) ts b.1)

-- what is met at the end was met before, or by one item
counted : (es : List Entry) (matched' : List Target) (n : ℕ) (ts : List Item) → answered (items_conditions es matched' n ts) ≡ (Ok tt) → (k u : ℕ) →
    targeting es k u ts + once (is_matched k u matched') ≡ once (is_matched k u (matched_by es matched' ts))
unfolding items_conditions matched_by
counted es matched' n [] h k u = omega arith
counted es matched' n (t ∷ ts) h k u =
    let b = both-good (item_conditions es matched' n t) (items_conditions es (matching es matched' t) (suc n) ts) h in
    omega (arith, counted es (matching es matched' t) (suc n) ts b.1 k u, one_more k u (target_of es t) matched' (first-matched es matched' n t b.0))

-- ---- and back

folder-passes : (es : List Entry) (matched' : List Target) (n : ℕ) (t : Item) → is_file t ≡ false → is_folder t ≡ true → Leads es t →
    is_matched (index_of es t) (up_to_of t) matched' ≡ false → answered (item_conditions es matched' n t) ≡ (Ok tt)
unfolding item_conditions
folder-passes es matched' n t z is l v =
    let o : index_of es t < length es = rw z l.leads in
    ap (λ (b : Bool). answered (cond b (file_conditions es matched' n t) (folder_conditions es matched' n t))) z ∙
    none-wrong (folder_conditions es matched' n t) (is, (l.below, (l.short, (le-leb _ _ l.free, (lt-ltb _ _ o, (ap not v, (l.was-listed, tt)))))))

file-passes : (es : List Entry) (matched' : List Target) (n : ℕ) (t : Item) (e : Entry) → is_file t ≡ true → has_path t ≡ true → entry_of es t.path ≡ some e →
    Agrees e t → is_matched (index_of es t) (up_to_of t) matched' ≡ false → answered (item_conditions es matched' n t) ≡ (Ok tt)
unfolding item_conditions
file-passes es matched' n t e f w q g v =
    let p = and_parts (has_length_of e t) (has_sums_of e t) g.agree in
    let o : index_of es t < length es = rw f (has_place es t.path e q) in
    let a : entry_is has_length_of (entry_of es t.path) t ≡ true = rw q p.0 in
    let b : entry_is has_sums_of (entry_of es t.path) t ≡ true = rw q p.1 in
    ap (λ (b : Bool). answered (cond b (file_conditions es matched' n t) (folder_conditions es matched' n t))) f ∙
    none-wrong (file_conditions es matched' n t)
    (w, (lt-ltb _ _ o, (ap not v, (a, (g.whole, (eq-eqb _ _ g.judged, (b, (lt-ltb _ _ g.accepted, tt))))))))

item-passes : (es : List Entry) (matched' : List Target) (n : ℕ) (t : Item) → InOrder es t → is_matched (index_of es t) (up_to_of t) matched' ≡ false →
    answered (item_conditions es matched' n t) ≡ (Ok tt)
item-passes es matched' n t (folder is l) v =
    let z : is_file t ≡ false = ne_eqb t.kind 1 (λ (e : t.kind ≡ 1). let k = eqb-true t.kind 2 is in omega arith) in
    folder-passes es matched' n t z is l v
item-passes es matched' n t (file e f w q g) v = file-passes es matched' n t e f w q g v

-- what is known of the items that are left: each is in order, and each mark is met once, here or before
passes : (es : List Entry) (matched' : List Target) (n : ℕ) (ts : List Item) → All (InOrder es) ts →
    ((k u : ℕ) → targeting es k u ts + once (is_matched k u matched') ≤ 1) → answered (items_conditions es matched' n ts) ≡ (Ok tt)
unfolding items_conditions answered broken
passes es matched' n [] a h = refl
passes es matched' n (t ∷ ts) a h =
    let k = index_of es t in
    let u = up_to_of t in
    let y : is_target k u (target_of es t) ≡ true = both (eqb k k) (eqb u u) (eq-eqb k k refl) (eq-eqb u u refl) in
    let v = once-false (is_matched k u matched') (omega (arith, h k u, ap once y)) in
    goes_on (item_conditions es matched' n t) _ (item-passes es matched' n t a.0 v) ∙
    passes es (matching es matched' t) (suc n) ts a.1 (λ j w. omega (arith, h j w, one_more j w (target_of es t) matched' v))

-- ---- the files among the items

-- an item that is met as the file of an entry is one
file-mark : (es : List Entry) (k : ℕ) (t : Item) → InOrder es t → is_target k 0 (target_of es t) ≡ is_file_no es k t
file-mark es k t o = go (is_file t) refl o
  where
    go : (b : Bool) → is_file t ≡ b → InOrder es t →
        (eqb k (entry_index b es t.path) && eqb 0 (cond b 0 (length t.path))) ≡ (b && eqb k (entry_index true es t.path))
    go true f o = and-true (eqb k (entry_index true es t.path))
    go false f (file e g w q h) = absurd (true≢false (sym g ∙ f))
    go false f (folder is l) =
        let n = eqb-false (length t.path) 0 (not-true _ l.below) in
        rw (ne_eqb 0 (length t.path) (λ e. n (sym e)), and-false (eqb k (entry_index false es t.path)))

pub files_marked : (es : List Entry) (k : ℕ) (ts : List Item) → All (InOrder es) ts → targeting es k 0 ts ≡ files_no es k ts
files_marked es k [] a = refl
files_marked es k (t ∷ ts) a = omega (arith, files_marked es k ts a.1, ap once (file-mark es k t a.0))

-- ---- the verdict

module _ (es : List Entry) (t : Item) (ts : List Item) where
  abbrev rest : List Condition
  rest = rest_conditions es (matched_by es [] ts) (t ∷ ts)

  there : judgement es (t ∷ ts) ≡ (Ok tt) → Good es (t ∷ ts)
  unfolding judgement
  there h =
      let z = both-good (root_conditions (t ∷ ts)) (items_conditions es [] 1 ts ++ rest) h in
      let r = all-met (root_conditions (t ∷ ts)) z.0 in
      let a = both-good (items_conditions es [] 1 ts) rest z.1 in
      let w = both-good (must (is_whole (t ∷ ts)) Incomplete ∷ []) (entry_conditions 0 es (matched_by es [] ts) ++ figure_conditions (t ∷ ts)) a.1 in
      let b = both-good (entry_conditions 0 es (matched_by es [] ts)) (figure_conditions (t ∷ ts)) w.1 in
      let o = all-in_order es [] 1 ts a.0 in
      record {
        rooted = record { no_path = eqb-true _ _ r.1.0; is-folder = r.0; was-listed = r.1.1.0 };
        in_order = o;
        each-once = λ k l.
            let c = counted es [] 1 ts a.0 k 0 in
            let z : 0 + k ≡ k = omega arith in
            let m : is_matched k 0 (matched_by es [] ts) ≡ true = rw z at (all-matched 0 es (matched_by es [] ts) b.0 k l) in
            omega (arith, c, ap once m, files_marked es k ts o);
        none_twice = λ k u. omega (arith, counted es [] 1 ts a.0 k u, once-most (is_matched k u (matched_by es [] ts)));
        whole = eqb-true _ _ (all-met (must (is_whole (t ∷ ts)) Incomplete ∷ []) w.0).0;
        a-figure = (all-met (figure_conditions (t ∷ ts)) b.1).0;
      }

  back : Good es (t ∷ ts) → judgement es (t ∷ ts) ≡ (Ok tt)
  unfolding judgement
  back g =
      let r = none-wrong (root_conditions (t ∷ ts)) (g.rooted.is-folder, (eq-eqb _ _ g.rooted.no_path, (g.rooted.was-listed, tt))) in
      let p : answered (items_conditions es [] 1 ts) ≡ (Ok tt) = passes es [] 1 ts g.in_order (λ k u. omega (arith, g.none_twice k u)) in
      let w = none-wrong (must (is_whole (t ∷ ts)) Incomplete ∷ []) (eq-eqb _ _ g.whole, tt) in
      let m : answered (entry_conditions 0 es (matched_by es [] ts)) ≡ (Ok tt) = matched-all 0 es (matched_by es [] ts) (λ k l.
      let z : 0 + k ≡ k = omega arith in
      rw z (once-true (is_matched k 0 (matched_by es [] ts)) (omega (arith, g.each-once k l, counted es [] 1 ts p k 0, files_marked es k ts g.in_order)))) in
      goes_on (root_conditions (t ∷ ts)) (items_conditions es [] 1 ts ++ rest) r ∙
      goes_on (items_conditions es [] 1 ts) rest p ∙
      goes_on (must (is_whole (t ∷ ts)) Incomplete ∷ []) (entry_conditions 0 es (matched_by es [] ts) ++ figure_conditions (t ∷ ts)) w ∙
      goes_on (entry_conditions 0 es (matched_by es [] ts)) (figure_conditions (t ∷ ts)) m ∙
      none-wrong (figure_conditions (t ∷ ts)) (g.a-figure, tt)

no_items : (es : List Entry) → judgement es [] ≡ Err Incomplete
unfolding judgement items_conditions answered broken
no_items es = refl

pub passes_exactly : PassesExactly
passes_exactly es [] = (λ h. never Incomplete (sym (no_items es) ∙ h), λ g. absurd g.rooted)
passes_exactly es (t ∷ ts) = (there es t ts, back es t ts)
