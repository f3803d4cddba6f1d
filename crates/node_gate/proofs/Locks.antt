-- Each step keeps the rule of the ticket lock.
use Rattle.std.proofs.Common.{◌≡◌, ◌≢◌, ℕ, zero, suc, ◌+◌, ◌%◌, ◌^◌, ◌<◌, cond, List, [], ◌∷◌, ◌++◌, length, set, refl, sym, ap, ◌∙◌, subst, ⊎_elim, arith, count_by, length-set}
use Rattle.std.proofs.lemmas.List.Sums.{count_by-le-length}
use mathlib.Core.Option.{some, some-injective, some-ne-none}
use mathlib.Core.Logic.{dite}
use native.Mathlib.Decide.{ℕ_discrete}
use lib.ListN.{get_elem?}
use Rattle.atomic_table.proofs.Lists.{at_set, set_here, set_else, at_longer, one_turn}
use Rattle.node_gate.specs.declared.view.Lock.{Lock}
use Rattle.node_gate.specs.declared.view.Lock.TheVariants.{Idle, Waiting, Serving, Gone}
use Rattle.node_gate.specs.Tickets.{Has, has_ticket, Tickets}
use Rattle.node_gate.proofs.Counts.{inside, same_read, at_pushed, count_set, count_pushed, length_pushed}

abbrev Served : Lock → Type 0
Served Idle = ⊥
Served (Waiting k) = ⊥
Served (Serving k) = Unit {0}
Served Gone = ⊥

not_served : (l : Lock) (t : ℕ) → (Served l → ⊥) → l ≡ Serving t → ⊥
not_served l t unserved e = unserved (subst Served (sym e) tt)

-- who has not this ticket is not who has it
apart : (ls : List Lock) (i j : ℕ) (l m : Lock) (t : ℕ) → get_elem? ls i ≡ some l
    → (Has l t → ⊥) → get_elem? ls j ≡ some m → Has m t → j ≢ i
apart ls i j l m t at lacks at' has e =
    let here : get_elem? ls i ≡ some m = subst (λ k. get_elem? ls k ≡ some m) e at' in
    lacks (subst (λ x. Has x t) (same_read ls i m l here at) has)

-- tickets drawn and not served are fewer than words can tell apart
few_out : (ls : List Lock) (ticket serving : ℕ) → Tickets ls ticket serving
    → ticket < serving + 2 ^ 64
few_out ls ticket serving r = let c = r.counted in let f = r.few in
    let most = count_by-le-length has_ticket ls in omega arith

-- a seat without a ticket draws the next one
pub draws : (ls : List Lock) (ticket serving i : ℕ) → Tickets ls ticket serving
    → get_elem? ls i ≡ some Idle → Tickets (set ls i (Waiting ticket)) (ticket + 1) serving
draws ls ticket serving i r at = record {
  counted = let e : count_by has_ticket (set ls i (Waiting ticket)) + 0 ≡ count_by has_ticket ls + 1 =
      count_set has_ticket ls i Idle (Waiting ticket) at in let c = r.counted in omega arith;
  few = subst (λ n. n < 2 ^ 64) (sym (length-set ls i (Waiting ticket))) r.few;
  within = λ j l t e has. ⊎_elim
      (λ p. let k : ticket ≡ t = subst (λ x. Has x t) (sym p.1) has in let c = r.counted in
      (omega arith, omega arith))
      (λ p. let h = r.within j l t p.1 has in let b = h.1 in (h.0, omega arith))
      (at_set ls i j (Waiting ticket) l e);
  differ = λ a b l m t at-a at-b has-a has-b. ⊎_elim
      (λ p. ⊎_elim (λ q. p.0 ∙ sym q.0)
      (λ q. let k : ticket ≡ t = subst (λ x. Has x t) (sym p.1) has-a in
      let h = r.within b m t q.1 has-b in let u = h.1 in absurd (omega arith))
      (at_set ls i b (Waiting ticket) m at-b))
      (λ p. ⊎_elim
      (λ q. let k : ticket ≡ t = subst (λ x. Has x t) (sym q.1) has-b in
      let h = r.within a l t p.1 has-a in let u = h.1 in absurd (omega arith))
      (λ q. r.differ a b l m t p.1 q.1 has-a has-b) (at_set ls i b (Waiting ticket) m at-b))
      (at_set ls i a (Waiting ticket) l at-a);
  all = λ t low high. dite (ℕ_discrete t ticket)
      (λ e. (i, Waiting ticket, set_here ls i (Waiting ticket) (inside ls i Idle at).0, sym e))
      (λ other. let h = r.all t low (omega arith) in (
        h.0,
        h.1,
        set_else ls i h.0 (Waiting ticket)
            (apart ls i h.0 Idle h.1 t at (λ x. x) h.2 h.3) ∙ h.2,
        h.3,
      ));
  turn = λ j t e. ⊎_elim
      (λ p. absurd (not_served (Waiting ticket) t (λ x. x) p.1))
      (λ p. r.turn j t p.1) (at_set ls i j (Waiting ticket) (Serving t) e);
}

-- what a seat has of the lock changes, and its ticket does not
same_tickets : (ls : List Lock) (ticket serving i : ℕ) (old new : Lock)
    → Tickets ls ticket serving → get_elem? ls i ≡ some old → has_ticket new ≡ has_ticket old
    → ((t : ℕ) → Has new t → Has old t) → ((t : ℕ) → Has old t → Has new t)
    → ((t : ℕ) → new ≡ Serving t → t ≡ serving) → Tickets (set ls i new) ticket serving
same_tickets ls ticket serving i old new r at same back forth turn =
    let was : (j : ℕ) (l : Lock) (t : ℕ) → get_elem? (set ls i new) j ≡ some l → Has l t
    → (m : Lock) × (get_elem? ls j ≡ some m) × Has m t =
    λ j l t e has. ⊎_elim
    (λ p. (
      old,
      subst (λ k. get_elem? ls k ≡ some old) (sym p.0) at,
      back t (subst (λ x. Has x t) (sym p.1) has),
    ))
    (λ p. (l, p.1, has)) (at_set ls i j new l e) in record {
      counted = let x : ℕ = cond (has_ticket old) 1 0 in
          let e : count_by has_ticket (set ls i new) + x ≡ count_by has_ticket ls + x =
          count_set has_ticket ls i old new at
          ∙ ap (λ b. count_by has_ticket ls + cond b 1 0) same in
          let c = r.counted in omega arith;
      few = subst (λ n. n < 2 ^ 64) (sym (length-set ls i new)) r.few;
      within = λ j l t e has. let w = was j l t e has in r.within j w.0 t w.1 w.2;
      differ = λ a b l m t at-a at-b has-a has-b. let v = was a l t at-a has-a in
          let w = was b m t at-b has-b in r.differ a b v.0 w.0 t v.1 w.1 v.2 w.2;
      all = λ t low high. let h = r.all t low high in dite (ℕ_discrete h.0 i)
          (λ e. (
            i,
            new,
            set_here ls i new (inside ls i old at).0,
            forth t (subst (λ x. Has x t)
                (same_read ls i h.1 old (subst (λ k. get_elem? ls k ≡ some h.1) e h.2) at) h.3),
          ))
          (λ other. (h.0, h.1, set_else ls i h.0 new other ∙ h.2, h.3));
      turn = λ j t e. ⊎_elim (λ p. turn t p.1) (λ p. r.turn j t p.1)
          (at_set ls i j new (Serving t) e);
    }

-- where the word served is that of a seat's ticket, its ticket is served
pub is_turn : (ls : List Lock) (ticket serving i k : ℕ) → Tickets ls ticket serving
    → get_elem? ls i ≡ some (Waiting k) → serving % 2 ^ 64 ≡ k % 2 ^ 64 → serving ≡ k
is_turn ls ticket serving i k r at e = let w = r.within i (Waiting k) k at refl in
    let u = w.1 in let f = few_out ls ticket serving r in
    one_turn serving k (2 ^ 64) w.0 (omega arith) e

-- a seat reads that its ticket is served
pub reads : (ls : List Lock) (ticket serving i k : ℕ) → Tickets ls ticket serving
    → get_elem? ls i ≡ some (Waiting k) → serving ≡ k
    → Tickets (set ls i (Serving k)) ticket serving
reads ls ticket serving i k r at e =
    same_tickets ls ticket serving i (Waiting k) (Serving k) r at refl (λ t h. h) (λ t h. h)
    (λ t same. let h : k ≡ t = subst (λ x. Has x t) (sym same) refl in sym h ∙ sym e)

-- the seat whose ticket is served ends its turn
pub releases : (ls : List Lock) (ticket serving i k : ℕ) → Tickets ls ticket serving
    → get_elem? ls i ≡ some (Serving k) → Tickets (set ls i Idle) ticket (serving + 1)
releases ls ticket serving i k r at = let now : k ≡ serving = r.turn i k at in
    let other : (j : ℕ) (l : Lock) (t : ℕ) → j ≢ i → get_elem? ls j ≡ some l → Has l t
    → t ≢ serving =
    λ j l t ne at' has e. ne (r.differ j i l (Serving k) t at' at has (now ∙ sym e)) in record {
      counted = let e : count_by has_ticket (set ls i Idle) + 1 ≡ count_by has_ticket ls + 0 =
          count_set has_ticket ls i (Serving k) Idle at in let c = r.counted in omega arith;
      few = subst (λ n. n < 2 ^ 64) (sym (length-set ls i Idle)) r.few;
      within = λ j l t e has. ⊎_elim
          (λ p. absurd (subst (λ x. Has x t) (sym p.1) has))
          (λ p. let h = r.within j l t p.1 has in let u = h.0 in
          let ne = other j l t p.0 p.1 has in (omega arith, h.1)) (at_set ls i j Idle l e);
      differ = λ a b l m t at-a at-b has-a has-b. ⊎_elim
          (λ p. absurd (subst (λ x. Has x t) (sym p.1) has-a))
          (λ p. ⊎_elim (λ q. absurd (subst (λ x. Has x t) (sym q.1) has-b))
          (λ q. r.differ a b l m t p.1 q.1 has-a has-b) (at_set ls i b Idle m at-b))
          (at_set ls i a Idle l at-a);
      all = λ t low high. let h = r.all t (omega arith) high in (
        h.0,
        h.1,
        set_else ls i h.0 Idle
            (apart ls i h.0 (Serving k) h.1 t at (λ e. let e' : k ≡ t = e in omega arith) h.2 h.3)
            ∙ h.2,
        h.3,
      );
      turn = λ j t e. ⊎_elim
          (λ p. absurd (not_served Idle t (λ x. x) p.1))
          (λ p. absurd (other j (Serving t) t p.0 p.1 refl (r.turn j t p.1)))
          (at_set ls i j Idle (Serving t) e);
    }

-- one more seat
pub adds : (ls : List Lock) (ticket serving : ℕ) → Tickets ls ticket serving
    → length ls + 1 < 2 ^ 64 → Tickets (ls ++ Idle ∷ []) ticket serving
adds ls ticket serving r room = record {
  counted = let e : count_by has_ticket (ls ++ Idle ∷ []) ≡ count_by has_ticket ls + 0 =
      count_pushed has_ticket ls Idle in let c = r.counted in omega arith;
  few = subst (λ n. n < 2 ^ 64) (sym (length_pushed ls Idle)) room;
  within = λ j l t e has. ⊎_elim (λ p. r.within j l t p has)
      (λ p. absurd (subst (λ x. Has x t) (sym p.1) has)) (at_pushed ls Idle l j e);
  differ = λ a b l m t at-a at-b has-a has-b. ⊎_elim
      (λ p. ⊎_elim (λ q. r.differ a b l m t p q has-a has-b)
      (λ q. absurd (subst (λ x. Has x t) (sym q.1) has-b)) (at_pushed ls Idle m b at-b))
      (λ p. absurd (subst (λ x. Has x t) (sym p.1) has-a)) (at_pushed ls Idle l a at-a);
  all = λ t low high. let h = r.all t low high in
      (h.0, h.1, at_longer ls (Idle ∷ []) h.0 h.1 h.2, h.3);
  turn = λ j t e. ⊎_elim (λ p. r.turn j t p)
      (λ p. absurd (not_served Idle t (λ x. x) p.1)) (at_pushed ls Idle (Serving t) j e);
}

-- a seat without a ticket is taken in
pub goes : (ls : List Lock) (ticket serving i : ℕ) → Tickets ls ticket serving
    → get_elem? ls i ≡ some Idle → Tickets (set ls i Gone) ticket serving
goes ls ticket serving i r at = same_tickets ls ticket serving i Idle Gone r at refl
    (λ t h. h) (λ t h. h) (λ t e. absurd (not_served Gone t (λ x. x) e))

-- only one seat has read its turn
pub alone : (ls : List Lock) (ticket serving i j k t : ℕ) → Tickets ls ticket serving
    → get_elem? ls i ≡ some (Serving k) → get_elem? ls j ≡ some (Serving t) → i ≡ j
alone ls ticket serving i j k t r at at' =
    r.differ i j (Serving k) (Serving t) serving at at' (r.turn i k at) (r.turn j t at')

first_idle : (i : ℕ) (l : Lock) (t : ℕ) → get_elem? (Idle ∷ []) i ≡ some l → Has l t → ⊥
first_idle zero l t e has = subst (λ x. Has x t) (sym (some-injective Idle l e)) has
first_idle (suc i) l t e has = some-ne-none l (sym e)

-- no ticket is drawn yet
pub opens : Tickets (Idle ∷ []) 0 0
opens = record {
  counted = refl;
  few = omega arith;
  within = λ i l t e has. absurd (first_idle i l t e has);
  differ = λ i j l m t e e' has has'. absurd (first_idle i l t e has);
  all = λ t low high. absurd (omega arith);
  turn = λ i t e. absurd (first_idle i (Serving t) t e refl);
}
