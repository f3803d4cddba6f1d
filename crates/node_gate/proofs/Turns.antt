-- The steps of one turn put together.
use Rattle.std.proofs.Common.{◌≡◌, ℕ, ◌≤◌, true, All, List, [], ◌∷◌, ◌++◌, sym, ap, ◌∙◌, subst, arith, Option, Some, None}
use Rattle.atomic_table.specs.Table.{Me}
use Rattle.atomic_table.specs.Seated.{TableId}
use Rattle.node_gate.specs.declared.view.Lock.TheVariants.{Idle, Waiting, Serving}
use Rattle.node_gate.specs.declared.view.Turn.{Turn}
use Rattle.node_gate.specs.declared.view.View.{View}
use Rattle.node_gate.specs.History.{entries_of, turns_of, StartsWith}
use Rattle.node_gate.specs.Views.{taking, done}
use Rattle.node_gate.specs.Plays.{with_lock, Lent, Adds, MayReturn}
use Rattle.node_gate.specs.Calls.{Known, known, after_turn, IsLent, AddsOnly, TookTurn}

pub risen : (top n a b : ℕ) → top ≡ a → n ≡ b → a ≤ b → top ≤ n
risen top n a b e f h = omega arith

module _ {C E M : Type 0} where
  -- what the seat has once its turn is there
  pub waited : (m m1 m2 : Me (Option C) (View E M)) (k t : ℕ) → m1 ≡ with_lock (Waiting k) m
      → m2 ≡ with_lock (Serving t) m1 → m2.0 ≡ record m.0 { lock = Serving t }
  waited m m1 m2 k t e1 e2 =
      ap (λ x. x.0) e2 ∙ ap (λ (x : Me (Option C) (View E M)). record x.0 { lock = Serving t }) e1

  -- what the seat has once the value is out and a number published
  held : (m m1 m2 m3 m4 : Me (Option C) (View E M)) (k t : ℕ) (log : List (Turn E)) (n n' : ℕ)
      → m1 ≡ with_lock (Waiting k) m → m2 ≡ with_lock (Serving t) m1
      → m3 ≡ (taking m2.0 log n, (0, None) ∷ []) → m4 ≡ (record m3.0 { published = n' }, m3.1)
      → m4.0 ≡ record m.0 { lock = Serving t; holds = true; seen = log; published = n' }
  held m m1 m2 m3 m4 k t log n n' e1 e2 e3 e4 = ap (λ x. x.0) e4
      ∙ ap (λ (x : Me (Option C) (View E M)). record x.0 { published = n' }) e3
      ∙ ap (λ (v : View E M). record (taking v log n) { published = n' }) (waited m m1 m2 k t e1 e2)

module _ {C E M : Type 0} (entries : C → List E) (count : List E → ℕ) (mark : C → M)
    (may : ℕ → E → Type 0) where
  -- what was lent to the seat in its turn was lent to it at rest
  abbrev pub lent_of : (gate : TableId) (m m1 m2 : Me (Option C) (View E M)) (k t : ℕ) (c : C)
      → m1 ≡ with_lock (Waiting k) m → m2 ≡ with_lock (Serving t) m1
      → Lent entries count mark may m2.0 c → IsLent entries count mark may (known gate m.0) c
  lent_of gate m m1 m2 k t c e1 e2 p = let e = waited m m1 m2 k t e1 e2 in record {
    log = p.log;
    has = p.has;
    begins = subst (λ v. StartsWith p.log v.seen) e p.begins;
    own = subst (λ v. turns_of v.number p.log ≡ v.own) e p.own;
    allowed = p.allowed;
    rises = subst (λ v. v.published ≤ count (entries c)) e p.rises;
    marked = subst (λ v. v.mark ≡ Some (mark c)) e p.marked;
  }

  module _ (gate : TableId) (v : Known E M) (m m1 m2 m3 m4 : Me (Option C) (View E M))
      (k t n n' : ℕ) (before after : C) (is : known gate m.0 ≡ v)
      (e1 : m1 ≡ with_lock (Waiting k) m) (e2 : m2 ≡ with_lock (Serving t) m1)
      (p : Lent entries count mark may m2.0 before)
      (e3 : m3 ≡ (taking m2.0 p.log n, (0, None) ∷ []))
      (e4 : m4 ≡ (record m3.0 { published = n' }, m3.1)) where
    -- what is put back has the seat's mark, and adds to the history that the seat has seen
    pub owes : AddsOnly entries mark (may v.number) before after
        → MayReturn entries mark may m4.0 after
    owes changed = let h = held m m1 m2 m3 m4 k t p.log n n' e1 e2 e3 e4 in
        let added : List E = changed.added in (
          ap (λ x. x.mark) h ∙ (lent_of gate m m1 m2 k t before e1 e2 p).marked
              ∙ ap Some (sym changed.kept),
          added,
          (
            changed.adds ∙ ap (λ xs. xs ++ added) p.has
                ∙ ap (λ x. entries_of x.seen ++ added) (sym h),
            subst (λ i. All (may i) added) (sym (ap (λ x. x.number) h ∙ ap (λ x. x.number) is))
                changed.allowed,
          ),
        )

    -- the turn is in the history
    pub turned : {R : Type 0} (call : C → R → C → Type 0) (r : R) (gate' : TableId)
        (m5 m6 : Me (Option C) (View E M)) (added : List E) → call before r after
        → mark after ≡ mark before → n' ≡ count (entries after) → m5 ≡ (done m4.0 added, [])
        → Adds entries may m4.0 after added → m6 ≡ with_lock Idle m5 → gate' ≡ gate
        → TookTurn entries count mark may call v r (known gate' m6.0)
    turned call r gate' m5 m6 added called kept shows e5 adds e6 same =
        let h = held m m1 m2 m3 m4 k t p.log n n' e1 e2 e3 e4 in
        let lent = lent_of gate m m1 m2 k t before e1 e2 p in
        subst (λ (x : Known E M). TookTurn entries count mark may call x r (known gate' m6.0)) is record {
          before = before;
          after = after;
          lent = lent;
          called = called;
          changed = record {
            added = added;
            adds = adds.0 ∙ ap (λ x. entries_of x.seen ++ added) h
                ∙ ap (λ xs. xs ++ added) (sym p.has);
            allowed = subst (λ i. All (may i) added) (ap (λ x. x.number) h) adds.1;
            kept = kept;
          };
          now = ap (λ z. known z m6.0) same ∙ ap (λ x. known gate x.0) e6
              ∙ ap (λ (x : Me (Option C) (View E M)). known gate (record x.0 { lock = Idle })) e5
              ∙ ap (λ (x : View E M). known gate (record (done x added) { lock = Idle })) h
              ∙ ap (after_turn (known gate m.0) p.log added) shows;
        }
