-- What the seats know of the history stays so along each step.
use Rattle.std.proofs.Common.{◌≡◌, ◌≢◌, ℕ, ◌<◌, true, false, All, List, [], ◌∷◌, ◌++◌, length, set, refl, sym, ap, ◌∙◌, subst, ⊎_elim, arith, length-set}
use Rattle.std.proofs.lemmas.Bool.{false≢true}
use Rattle.std.proofs.lemmas.List.Elements.{All-nil, All-cons, All-set, All-push, All-weaker}
use mathlib.Core.Option.{some, some-ne-none}
use mathlib.Core.Logic.{dite}
use native.Mathlib.Decide.{ℕ_discrete}
use lib.ListN.{get_elem?}
use Rattle.atomic_table.proofs.Lists.{at_set, set_here, set_else, at_longer}
use Rattle.node_gate.specs.declared.view.Lock.{Lock}
use Rattle.node_gate.specs.declared.view.Lock.TheVariants.{Serving}
use Rattle.node_gate.specs.declared.view.Turn.{Turn}
use Rattle.node_gate.specs.declared.view.View.{View}
use Rattle.node_gate.specs.History.{turns_of, with_turn}
use Rattle.node_gate.specs.Views.{is_alive, met_as, cut, another, joined, gone, done}
use Rattle.node_gate.specs.Law.{IsGone, Fits, HoldsInTurn, Stories}
use Rattle.node_gate.proofs.Counts.{inside, same_read, at_pushed, length_pushed}
use Rattle.node_gate.proofs.Histories.{all_at, turns_own, turns_other, starts_itself, starts_more, none_of}

module _ {E M : Type 0} where
  -- who was taken in is not who is still in use
  pub not_alive : (views : List (View E M)) (i n : ℕ) (v : View E M) → get_elem? views i ≡ some v
      → is_alive v.lock ≡ true → IsGone views n → n ≢ i
  not_alive views i n v at alive is-gone e =
      let here : get_elem? views i ≡ some is-gone.0 =
      subst (λ k. get_elem? views k ≡ some is-gone.0) e is-gone.1 in
      false≢true (ap is_alive (sym is-gone.2)
      ∙ ap (λ x. is_alive x.lock) (same_read views i is-gone.0 v here at) ∙ alive)

  -- who was taken in stays so where another view changes
  abbrev pub gone_set : (views : List (View E M)) (i n : ℕ) (v w : View E M)
      → get_elem? views i ≡ some v → is_alive v.lock ≡ true → IsGone views n
      → IsGone (set views i w) n
  gone_set views i n v w at alive is-gone =
      (is-gone.0, set_else views i n w (not_alive views i n v at alive is-gone) ∙ is-gone.1, is-gone.2)

  -- a seat that has not read its turn does not hold the value
  pub not_holding : (views : List (View E M)) (i : ℕ) (v : View E M) (l : Lock)
      → All HoldsInTurn views → get_elem? views i ≡ some v → v.lock ≡ l
      → ((k : ℕ) → l ≡ Serving k → ⊥) → v.holds ≡ true → ⊥
  not_holding views i v l holding at is unserved holds =
      let t = all_at HoldsInTurn views i v holding at holds in unserved t.0 (sym is ∙ t.1)

  -- a seat knows the same where only who was taken in grows
  pub refits : (log : List (Turn E)) (views views' : List (View E M)) (i : ℕ) (v : View E M)
      → ((n : ℕ) → IsGone views n → IsGone views' n) → Fits log views i v → Fits log views' i v
  refits log views views' i v still f = record {
    own = f.own;
    saw = f.saw;
    heard = f.heard;
    met = All-weaker (λ m. (turns_of m.number log ≡ m.turns) × IsGone views m.number)
        (λ m. (turns_of m.number log ≡ m.turns) × IsGone views' m.number)
        (λ m h. (h.0, still m.number h.1)) v.met f.met;
  }

  -- one view changes, and what it has of the history is so
  pub stays : (log : List (Turn E)) (views : List (View E M)) (i : ℕ) (v w : View E M)
      → Stories log views → get_elem? views i ≡ some v → is_alive v.lock ≡ true
      → (Fits log views i v → Fits log views i w) → HoldsInTurn w → Stories log (set views i w)
  stays log views i v w s at alive fits holding =
      let still : (n : ℕ) → IsGone views n → IsGone (set views i w) n =
      λ n. gone_set views i n v w at alive in record {
        each = λ j x e alive'. ⊎_elim
            (λ p. subst (λ (z : ℕ × View E M). Fits log (set views i w) z.0 z.1)
            (λ c. (sym p.0 c, p.1 c))
            (refits log views (set views i w) i w still (fits (s.each i v at alive))))
            (λ p. refits log views (set views i w) j x still (s.each j x p.1 alive'))
            (at_set views i j w x e);
        known = subst (λ n. All (λ t. t.seat < n) log) (sym (length-set views i w)) s.known;
        holding = All-set HoldsInTurn views i w holding s.holding;
      }

  -- a change of the lock alone
  pub relocks : (log : List (Turn E)) (views : List (View E M)) (i : ℕ) (v : View E M) (l : Lock)
      → Stories log views → get_elem? views i ≡ some v → is_alive v.lock ≡ true
      → HoldsInTurn (record v { lock = l }) → Stories log (set views i (record v { lock = l }))
  relocks log views i v l s at alive holding = stays log views i v (record v { lock = l }) s at alive
      (λ f. record { own = f.own; saw = f.saw; heard = f.heard; met = f.met }) holding

  -- the seat i, which had seen the whole history, adds a turn
  pub grows : (views : List (View E M)) (i : ℕ) (v : View E M) (added : List E)
      → Stories v.seen views → get_elem? views i ≡ some v → is_alive v.lock ≡ true
      → v.number ≡ i → Stories (with_turn v.seen v.number added) (set views i (done v added))
  grows views i v added s at alive is =
      let log : List (Turn E) = v.seen in
      let log' : List (Turn E) = with_turn log v.number added in
      let views' : List (View E M) = set views i (done v added) in
      let f = s.each i v at alive in
      let moved : (x : View E M)
      → All (λ m. (turns_of m.number log ≡ m.turns) × IsGone views m.number) x.met
      → All (λ m. (turns_of m.number log' ≡ m.turns) × IsGone views' m.number) x.met =
      λ x. All-weaker (λ m. (turns_of m.number log ≡ m.turns) × IsGone views m.number)
      (λ m. (turns_of m.number log' ≡ m.turns) × IsGone views' m.number)
      (λ m h. (
        turns_other log v.number m.number added
            (λ e. not_alive views i m.number v at alive h.1 (sym e ∙ is)) ∙ h.0,
        gone_set views i m.number v (done v added) at alive h.1,
      )) x.met in
      let here : Fits log' views' i (done v added) = record {
        own = ap (λ n. turns_of n log') (sym is) ∙ turns_own log v.number added
            ∙ ap (λ ts. with_turn ts v.number added) (ap (λ n. turns_of n log) is ∙ f.own);
        saw = starts_itself log';
        heard = starts_more log v.told (record { seat = v.number; entries = added } ∷ []) f.heard;
        met = moved v f.met;
      } in record {
        each = λ j x e alive'. ⊎_elim
            (λ p. subst (λ (z : ℕ × View E M). Fits log' views' z.0 z.1) (λ c. (sym p.0 c, p.1 c)) here)
            (λ p. let g = s.each j x p.1 alive' in record {
              own = turns_other log v.number j added (λ h. p.0 (sym h ∙ is)) ∙ g.own;
              saw = starts_more log x.seen (record { seat = v.number; entries = added } ∷ []) g.saw;
              heard = starts_more log x.told (record { seat = v.number; entries = added } ∷ []) g.heard;
              met = moved x g.met;
            }) (at_set views i j (done v added) x e);
        known = All-push (λ t. t.seat < length views') log (record { seat = v.number; entries = added })
            (subst (λ n. All (λ t. t.seat < n) log) (sym (length-set views i (done v added))) s.known)
            (let a = (inside views i v at).0 in let b = length-set views i (done v added) in omega arith);
        holding = All-set HoldsInTurn views i (done v added) (λ e. absurd (false≢true e)) s.holding;
      }

  -- a seat is split off
  pub splits : (log : List (Turn E)) (views : List (View E M)) (i : ℕ) (v : View E M)
      → Stories log views → get_elem? views i ≡ some v → is_alive v.lock ≡ true
      → Stories log (set views i (cut v) ++ another v ∷ [])
  splits log views i v s at alive =
      let views' : List (View E M) = set views i (cut v) in
      let views'' : List (View E M) = views' ++ another v ∷ [] in
      let s' : Stories log views' = stays log views i v (cut v) s at alive
      (λ f. record { own = f.own; saw = f.saw; heard = f.heard; met = f.met })
      (all_at HoldsInTurn views i v s.holding at) in
      let still : (n : ℕ) → IsGone views' n → IsGone views'' n =
      λ n h. (h.0, at_longer views' (another v ∷ []) n h.0 h.1, h.2) in
      let here : Fits log views'' (length views') (another v) = record {
        own = none_of log (length views') s'.known;
        saw = (s.each i v at alive).saw;
        heard = (log, refl);
        met = All-nil (λ m. (turns_of m.number log ≡ m.turns) × IsGone views'' m.number);
      } in record {
        each = λ j x e alive'. ⊎_elim
            (λ p. refits log views' views'' j x still (s'.each j x p alive'))
            (λ p. subst (λ (z : ℕ × View E M). Fits log views'' z.0 z.1) (λ c. (sym p.0 c, p.1 c)) here)
            (at_pushed views' (another v) x j e);
        known = All-weaker (λ t. t.seat < length views') (λ t. t.seat < length views'')
            (λ t h. let a = length_pushed views' (another v) in omega arith) log s'.known;
        holding = All-push HoldsInTurn views' (another v) s'.holding (λ e. absurd (false≢true e));
      }

  -- the seat i takes another in
  pub meets : (log : List (Turn E)) (views : List (View E M)) (i other : ℕ) (v w : View E M)
      → Stories log views → get_elem? views i ≡ some v → is_alive v.lock ≡ true
      → get_elem? views other ≡ some w → is_alive w.lock ≡ true → w.number ≡ other → other ≢ i
      → Stories log (set (set views i (joined v w)) other gone)
  meets log views i other v w s at alive at' alive' is apart =
      let views' : List (View E M) = set views i (joined v w) in
      let views'' : List (View E M) = set views' other gone in
      let there : get_elem? views' other ≡ some w = set_else views i other (joined v w) apart ∙ at' in
      let spent : get_elem? views'' other ≡ some gone =
      set_here views' other gone (inside views' other w there).0 in
      let still : (n : ℕ) → IsGone views n → IsGone views'' n =
      λ n h. dite (ℕ_discrete n other)
      (λ e. (gone, subst (λ k. get_elem? views'' k ≡ some gone) (sym e) spent, refl))
      (λ ne. (
        h.0,
        set_else views' other n gone ne
            ∙ (gone_set views i n v (joined v w) at alive h).1,
        h.2,
      )) in
      let f = s.each i v at alive in let g = s.each other w at' alive' in
      let here : Fits log views'' i (joined v w) = record {
        own = f.own;
        saw = f.saw;
        heard = g.saw;
        met = All-push (λ m. (turns_of m.number log ≡ m.turns) × IsGone views'' m.number)
            v.met (met_as w) (refits log views views'' i v still f).met (
              ap (λ n. turns_of n log) is ∙ g.own,
              (gone, subst (λ k. get_elem? views'' k ≡ some gone) (sym is) spent, refl),
            );
      } in record {
        each = λ j x e alive-x. ⊎_elim
            (λ p. absurd (false≢true (ap (λ y. is_alive y.lock) p.1 ∙ alive-x)))
            (λ p. ⊎_elim
            (λ q. subst (λ (z : ℕ × View E M). Fits log views'' z.0 z.1) (λ c. (sym q.0 c, q.1 c)) here)
            (λ q. refits log views views'' j x still (s.each j x q.1 alive-x))
            (at_set views i j (joined v w) x p.1)) (at_set views' other j gone x e);
        known = subst (λ n. All (λ t. t.seat < n) log)
            (sym (length-set views' other gone ∙ length-set views i (joined v w))) s.known;
        holding = All-set HoldsInTurn views' other gone (λ e. absurd (false≢true e))
            (All-set HoldsInTurn views i (joined v w) (all_at HoldsInTurn views i v s.holding at) s.holding);
      }

  -- one seat, and no turn yet
  pub opens_story : (v : View E M) → v.own ≡ [] → v.seen ≡ [] → v.told ≡ [] → v.met ≡ []
      → v.holds ≡ false → Stories [] (v ∷ [])
  opens_story v no_own no_seen no_told no_met free =
      let here : Fits [] (v ∷ []) 0 v = record {
        own = sym no_own;
        saw = ([], ap (λ ts. ts ++ []) (sym no_seen));
        heard = ([], ap (λ ts. ts ++ []) (sym no_told));
        met = subst (All (λ m. (turns_of m.number [] ≡ m.turns) × IsGone (v ∷ []) m.number))
            (sym no_met) (All-nil (λ m. (turns_of m.number [] ≡ m.turns) × IsGone (v ∷ []) m.number));
      } in record {
        each = λ i x at alive. ⊎_elim
            (λ p. absurd (some-ne-none x (sym p)))
            (λ p. subst (λ (z : ℕ × View E M). Fits [] (v ∷ []) z.0 z.1) (λ c. (sym p.0 c, p.1 c)) here)
            (at_pushed [] v x i at);
        known = All-nil (λ t. t.seat < 1);
        holding = All-cons HoldsInTurn v [] (λ holds. absurd (false≢true (sym free ∙ holds)))
            (All-nil HoldsInTurn);
      }
