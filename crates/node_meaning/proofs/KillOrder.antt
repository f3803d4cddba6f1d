-- Sending all rollbacks first and ending the transactions then comes to the same as killing one
-- session after the other.
use Rattle.std.proofs.Common.{◌≡◌, ℕ, false, List, [], ◌∷◌, Option, None, Some, inl, inr, refl, ap, sym, ◌∙◌}
use Rattle.std.specs.Prelude.{fold}
use Rattle.std.specs.Ordering.{nat_cmp, eq_by_cmp}
use Rattle.std.proofs.lemmas.Bool.{false_from_ne_true}
use Rattle.finite_map.proofs.Edits.{numbers, tied, get-put_beside, get-taken_beside}
use Rattle.finite_map.specs.FiniteMap.{FiniteMap, get}
use Rattle.key_sets.specs.Keys.{Keys}
use Rattle.key_sets.proofs.ListLemmas.{In}
use Rattle.row_locks.specs.Locks.{touching_sessions}
use Rattle.write_set.specs.declared.write_set.WriteSet.{WriteSet}
use Rattle.client_trx.specs.Live.{Live, rollback_due, killed_by}
use Rattle.client_trx.specs.declared.status.Outcome.{Outcome}
use Rattle.client_trx.specs.declared.status.Outcome.TheVariants.{Lives, Ends}
use Rattle.node_meaning.specs.Node.{ModelNode, ApplyUnit, locks_of, send_any, taken_back}
use Rattle.node_meaning.specs.Steps.{told, ended_session, end_killed, sent_rollback, send_rollback, kill_session}
use Rattle.node_meaning.proofs.TouchedLocks.{NoTwice, touching-no_twice}
use Rattle.node_meaning.proofs.StartFacts.{live-sent_rollback}

-- ---- a rollback that is sent, and the end of a transaction
any_told : (n : ModelNode) (s : ℕ) (x : Outcome × Live) (o : Option WriteSet)
    → send_any (told n s x) o ≡ told (send_any n o) s x
any_told n s (Lives, t) None = refl
any_told n s (Lives, t) (Some w) = refl
any_told n s (Ends reply, t) None = refl
any_told n s (Ends reply, t) (Some w) = refl

back_told : (n : ModelNode) (s : ℕ) (x : Outcome × Live) (u : Live)
    → taken_back (told n s x) u ≡ told (taken_back n u) s x
back_told n s (Lives, t) u =
    any_told n s (Lives, t) (rollback_due u n.at.serial n.at.committed)
back_told n s (Ends reply, t) u =
    any_told n s (Ends reply, t) (rollback_due u n.at.serial n.at.committed)

session_back : (number : ℕ) (n : ModelNode) (s : ℕ) (o p : Option Live)
    → sent_rollback (ended_session number n s o) p ≡ ended_session number (sent_rollback n p) s o
session_back number n s None p = refl
session_back number n s (Some t) None = refl
session_back number n s (Some t) (Some u) = back_told n s (killed_by number t) u

-- ---- what other sessions have
beside_told : (n : ModelNode) (s q : ℕ) (x : Outcome × Live) → eq_by_cmp nat_cmp q s ≡ false
    → get (told n s x).live q ≡ get n.live q
beside_told n s q (Lives, t) differs = get-put_beside numbers n.live s t q differs
beside_told n s q (Ends reply, t) differs = get-taken_beside numbers n.live s q differs

beside_ended : (number : ℕ) (n : ModelNode) (s q : ℕ) (o : Option Live)
    → eq_by_cmp nat_cmp q s ≡ false
    → get (ended_session number n s o).live q ≡ get n.live q
beside_ended number n s q None differs = refl
beside_ended number n s q (Some t) differs = beside_told n s q (killed_by number t) differs

there_sent : (n : ModelNode) (s q : ℕ) → get (send_rollback n s).live q ≡ get n.live q
there_sent n s q =
    ap (λ (live : FiniteMap nat_cmp Live). get live q) (live-sent_rollback n (get n.live s))

-- ---- one session, and others
send_end : (number : ℕ) (n : ModelNode) (s q : ℕ) → eq_by_cmp nat_cmp q s ≡ false
    → send_rollback (end_killed number n s) q ≡ end_killed number (send_rollback n q) s
send_end number n s q differs =
    ap (sent_rollback (end_killed number n s)) (beside_ended number n s q (get n.live s) differs)
    ∙ session_back number n s (get n.live s) (get n.live q)
    ∙ ap (ended_session number (send_rollback n q) s) (sym (there_sent n q s))

differ : (s q : ℕ) (qs : List ℕ) → (In s (q ∷ qs) → ⊥) → eq_by_cmp nat_cmp q s ≡ false
differ s q qs none =
    false_from_ne_true (eq_by_cmp nat_cmp q s) (λ same. none (inl (sym (tied numbers q s same))))

send_end_all : (number : ℕ) (s : ℕ) (others : List ℕ) (n : ModelNode) → (In s others → ⊥)
    → fold send_rollback (end_killed number n s) others
    ≡ end_killed number (fold send_rollback n others) s
send_end_all number s [] n none = refl
send_end_all number s (q ∷ qs) n none =
    ap (λ m. fold send_rollback m qs) (send_end number n s q (differ s q qs none))
    ∙ send_end_all number s qs (send_rollback n q) (λ later. none (inr later))

kill_is : (number : ℕ) (n : ModelNode) (s : ℕ)
    → kill_session number n s ≡ end_killed number (send_rollback n s) s
kill_is number n s = ap (ended_session number (send_rollback n s) s) (sym (there_sent n s s))

-- sessions, none of them twice
pub kills-in_order : (number : ℕ) (victims : List ℕ) (n : ModelNode) → NoTwice victims
    → fold (kill_session number) n victims
    ≡ fold (end_killed number) (fold send_rollback n victims) victims
kills-in_order number [] n once = refl
kills-in_order number (v ∷ vs) n once =
    kills-in_order number vs (kill_session number n v) once.1
    ∙ ap (λ m. fold (end_killed number) (fold send_rollback m vs) vs) (kill_is number n v)
    ∙ ap (λ m. fold (end_killed number) m vs) (send_end_all number v vs (send_rollback n v) once.0)

-- those whose locks touch a unit's keys
pub kills-touching : (number : ℕ) (live : FiniteMap nat_cmp Live)
    (units : FiniteMap nat_cmp ApplyUnit) (keys : Keys) (n : ModelNode)
    → fold (kill_session number) n (touching_sessions (locks_of live units) keys)
    ≡ fold (end_killed number) (fold send_rollback n (touching_sessions (locks_of live units) keys))
    (touching_sessions (locks_of live units) keys)
kills-touching number live units keys n =
    kills-in_order number (touching_sessions (locks_of live units) keys) n
    (touching-no_twice (locks_of live units) keys)
