use mathlib.Core.Path.{◌≡◌, sym, ap, ◌∙◌}
use mathlib.Core.Bool.{Bool}
use mathlib.Core.List.{List}
use Prim.Native.Nat.{ℕ, ◌+◌, ◌-◌, ◌<◌}
use native.Mathlib.Omega.{arith}
use lib.ListN.{take, drop, get_or}
use Rattle.slip_check.specs.Entries.{entry_in, after}
use Rattle.stick_rules.specs.Names.{belongs}
use Rattle.stick_names.specs.Digest.{digest_of}
use Rattle.stick_judge.specs.Judging.{Indexed}
use Rattle.stick_judge.proofs.Digesting.{name_part}
use Rattle.stick_judge.proofs.Finding.{seeks_own, seeks_start, here, seeks_found, seeks_on, seeks_end}
use Rattle.stick_judge.proofs.Manifest.find.Goals as goal

-- what was compared is its name
named : (file : Bool) (s : List ℕ) (o n : ℕ) (path : List ℕ) (r : Bool) → n ≡ get_or s o 0 →
    r ≡ belongs file (take (o + 1 + n - (o + 1)) (drop (o + 1) s)) path → r ≡ belongs file (entry_in s o).name path
named file s o n path r e h = rw (name_part s o n e) at h

-- and the digest is that of its name
digest-is : (s : List ℕ) (entries : ℕ) (digests : List ℕ) (k o n : ℕ) → Indexed s entries digests → k < entries → o ≡ after k s 7 → n ≡ get_or s o 0 →
    get_or digests k 0 ≡ digest_of (take (o + 1 + n - (o + 1)) (drop (o + 1) s))
digest-is s entries digests k o n i l q e =
    i.digested k l ∙ ap (λ (x : ℕ). digest_of (entry_in s x).name) (sym q) ∙ ap digest_of (sym (name_part s o n e))

pub returns-then-is_own : goal.returns-then-is_own
returns-then-is_own c = let a = c.args in seeks_own a.file a.self.now.slip.now a.path.now a.self.now.entries _ (sym c.is_own.ensures ∙ c.if-is_own.true) c.slip_entry.ensures

pub loop-k-init : goal.loop-k-init
loop-k-init c = let a = c.args in seeks_start a.file a.self.now.slip.now a.path.now a.self.now.entries (sym c.is_own.ensures ∙ c.if-is_own.false) a.self.now.indexed.whole

pub byte_at-n-requires : goal.byte_at-n-requires
byte_at-n-requires c = let a = c.args in let l = c.loop-k in omega (arith, here a.file a.self.now.slip.now a.path.now a.self.now.entries l.k l.o l.invariant (omega arith))

pub overflow_add-name : goal.overflow_add-name
overflow_add-name c = let a = c.args in let l = c.loop-k in omega (arith, here a.file a.self.now.slip.now a.path.now a.self.now.entries l.k l.o l.invariant (omega arith))

pub overflow_add-name-in-loop-k : goal.overflow_add-name-in-loop-k
overflow_add-name-in-loop-k c = let a = c.args in let l = c.loop-k in omega (arith, here a.file a.self.now.slip.now a.path.now a.self.now.entries l.k l.o l.invariant (omega arith))

pub overflow_add-name-in-loop-k-2 : goal.overflow_add-name-in-loop-k-2
overflow_add-name-in-loop-k-2 c =
    let a = c.args in
    let l = c.loop-k in
    omega (arith, here a.file a.self.now.slip.now a.path.now a.self.now.entries l.k l.o l.invariant (omega arith), c.byte_at-n.ensures.0)

pub slice_bounds-name-end : goal.slice_bounds-name-end
slice_bounds-name-end c =
    let a = c.args in
    let l = c.loop-k in
    omega (arith, here a.file a.self.now.slip.now a.path.now a.self.now.entries l.k l.o l.invariant (omega arith), c.byte_at-n.ensures.0)

pub is_entry_of-requires : goal.is_entry_of-requires
is_entry_of-requires c =
    let a = c.args in
    let l = c.loop-k in
    (digest-is a.self.now.slip.now a.self.now.entries a.self.now.digests.now l.k l.o c.byte_at-n.result a.self.now.indexed (omega arith) l.invariant.stands c.byte_at-n.ensures.0, c.digest-sought.ensures)

pub entry-requires : goal.entry-requires
entry-requires c = let a = c.args in let l = c.loop-k in here a.file a.self.now.slip.now a.path.now a.self.now.entries l.k l.o l.invariant (omega arith)

pub returns-then-is_entry_of : goal.returns-then-is_entry_of
returns-then-is_entry_of c =
    let a = c.args in
    let l = c.loop-k in
    let e = named a.file a.self.now.slip.now l.o c.byte_at-n.result _ _ c.byte_at-n.ensures.0 c.is_entry_of.ensures in
    seeks_found a.file a.self.now.slip.now a.path.now a.self.now.entries l.k l.o l.invariant (omega arith) _ (sym e ∙ c.if-is_entry_of.true) c.entry.ensures

pub overflow_add-o-in-loop-k : goal.overflow_add-o-in-loop-k
overflow_add-o-in-loop-k c =
    let a = c.args in
    let l = c.loop-k in
    omega (arith, here a.file a.self.now.slip.now a.path.now a.self.now.entries l.k l.o l.invariant (omega arith), c.byte_at-n.ensures.0)

pub loop-k-preserved : goal.loop-k-preserved
loop-k-preserved c =
    let a = c.args in
    let l = c.loop-k in
    let b = c.byte_at-n.ensures.0 in
    let e = named a.file a.self.now.slip.now l.o c.byte_at-n.result _ _ b c.is_entry_of.ensures in
    rw b (seeks_on a.file a.self.now.slip.now a.path.now a.self.now.entries l.k l.o l.invariant (omega arith) (sym e ∙ c.if-is_entry_of.false))

pub returns : goal.returns
returns c =
    let a = c.args in
    let l = c.loop-k in
    seeks_end a.file a.self.now.slip.now a.path.now a.self.now.entries l.k l.o l.invariant (omega arith)
