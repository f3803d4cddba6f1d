-- Starting a unit keeps the facts of a node: the transactions in its way end or lose their locks.
use Rattle.std.proofs.Common.{◌≡◌, ℕ, true, false, inl, inr, List, [], ◌∷◌, Option, None, Some, refl, ap, sym, subst, ◌∙◌, true≢false}
use Rattle.std.specs.Prelude.{fold}
use Rattle.std.specs.Ordering.{nat_cmp}
use Rattle.std.proofs.lemmas.Bool.{false_from_ne_true}
use Rattle.finite_map.proofs.Edits.{numbers, Inserted, AtKey, Elsewhere, inserted, left, untied}
use Rattle.finite_map.specs.FiniteMap.{FiniteMap, get, insert, remove}
use Rattle.key_sets.proofs.ListLemmas.{In}
use Rattle.write_set.specs.declared.write_set.WriteSet.{WriteSet}
use Rattle.client_trx.specs.Live.{Live, has_locks, with_status, killed_in, rollback_due}
use Rattle.client_trx.specs.declared.status.Status.{Status}
use Rattle.client_trx.specs.declared.status.Status.TheVariants as status
use Rattle.node_meaning.specs.Node.{ModelNode, send_any}
use Rattle.node_meaning.specs.Steps.{told, ended_session, sent_rollback, killed_session, kill_session}
use Rattle.node_meaning.proofs.EntryLaws.{some_not_none}

-- what a kill leaves of the live transactions: those with locks are as they were, and the killed one has none
pub record Killed (before after : FiniteMap nat_cmp Live) (s : ℕ) : Type 0 where
  pub fewer : (o : ℕ) (u : Live) → get after o ≡ Some u → has_locks u.status ≡ true → get before o ≡ Some u
  pub unlocked : (u : Live) → get after s ≡ Some u → has_locks u.status ≡ false

-- ---- what a kill leaves
pub gone_killed : (live : FiniteMap nat_cmp Live) (s : ℕ) → Killed live (remove live s) s
gone_killed live s = record {
  fewer = λ o u there locks. (left numbers live s o u there).there;
  unlocked = λ u there. absurd (untied numbers s s (left numbers live s s u there).elsewhere refl);
}

fewer_by : (live : FiniteMap nat_cmp Live) (s : ℕ) (t : Live) → has_locks t.status ≡ false → (o : ℕ) (u : Live)
    → Inserted numbers live s t o u → has_locks u.status ≡ true → get live o ≡ Some u
fewer_by live s t none o u (AtKey key value) locks =
    absurd (true≢false (sym locks ∙ ap (λ (x : Live). has_locks x.status) value ∙ none))
fewer_by live s t none o u (Elsewhere differs there) locks = there

unlocked_by : (live : FiniteMap nat_cmp Live) (s : ℕ) (t : Live) → has_locks t.status ≡ false → (u : Live)
    → Inserted numbers live s t s u → has_locks u.status ≡ false
unlocked_by live s t none u (AtKey key value) = ap (λ (x : Live). has_locks x.status) value ∙ none
unlocked_by live s t none u (Elsewhere differs there) = absurd (untied numbers s s differs refl)

pub put_killed : (live : FiniteMap nat_cmp Live) (s : ℕ) (t : Live) → has_locks t.status ≡ false → Killed live (insert live s t) s
put_killed live s t none = record {
  fewer = λ o u there. fewer_by live s t none o u (inserted numbers live s t o u there);
  unlocked = λ u there. unlocked_by live s t none u (inserted numbers live s t s u there);
}

status_killed : (n : ModelNode) (s number : ℕ) (t : Live) (st : Status) → t.status ≡ st → Killed n.live (told n s (killed_in st number t)).live s
status_killed n s number t status.Running now = gone_killed n.live s
status_killed n s number t status.FragmentSent now = gone_killed n.live s
status_killed n s number t status.CommitSent now = put_killed n.live s (with_status t status.KilledSent) refl
status_killed n s number t (status.Certified m) now = put_killed n.live s (with_status t (status.Replaying m)) refl
status_killed n s number t status.KilledSent now = put_killed n.live s t (ap has_locks now)
status_killed n s number t (status.Replaying m) now = put_killed n.live s t (ap has_locks now)

-- a rollback that is sent changes no live transaction, and no unit
pub live-sent_any : (n : ModelNode) (o : Option WriteSet) → (send_any n o).live ≡ n.live
live-sent_any n None = refl
live-sent_any n (Some w) = refl

units-sent_any : (n : ModelNode) (o : Option WriteSet) → (send_any n o).units ≡ n.units
units-sent_any n None = refl
units-sent_any n (Some w) = refl

pub live-sent_rollback : (n : ModelNode) (o : Option Live) → (sent_rollback n o).live ≡ n.live
live-sent_rollback n None = refl
live-sent_rollback n (Some t) = live-sent_any n (rollback_due t n.at.serial n.at.committed)

units-sent_rollback : (n : ModelNode) (o : Option Live) → (sent_rollback n o).units ≡ n.units
units-sent_rollback n None = refl
units-sent_rollback n (Some t) = units-sent_any n (rollback_due t n.at.serial n.at.committed)

option_killed : (n : ModelNode) (s number : ℕ) (o : Option Live) → get n.live s ≡ o → Killed n.live (ended_session number n s o).live s
option_killed n s number None is = record {
  fewer = λ o u there locks. there;
  unlocked = λ u there. absurd (some_not_none u (get n.live s) there is);
}
option_killed n s number (Some t) is = status_killed n s number t t.status refl

session_killed : (n : ModelNode) (s number : ℕ) (o : Option Live) → get n.live s ≡ o → Killed n.live (killed_session number n s o).live s
session_killed n s number o is =
    let m = sent_rollback n o in
    let same = live-sent_rollback n o in
    subst (λ before. Killed before (ended_session number m s o).live s) same
    (option_killed m s number o (ap (λ (live : FiniteMap nat_cmp Live). get live s) same ∙ is))

pub kill_leaves : (number : ℕ) (n : ModelNode) (s : ℕ) → Killed n.live (kill_session number n s).live s
kill_leaves number n s = session_killed n s number (get n.live s) refl

status_units : (n : ModelNode) (s number : ℕ) (t : Live) (st : Status) → (told n s (killed_in st number t)).units ≡ n.units
status_units n s number t status.Running = refl
status_units n s number t status.FragmentSent = refl
status_units n s number t status.CommitSent = refl
status_units n s number t (status.Certified m) = refl
status_units n s number t status.KilledSent = refl
status_units n s number t (status.Replaying m) = refl

option_units : (n : ModelNode) (s number : ℕ) (o : Option Live) → (ended_session number n s o).units ≡ n.units
option_units n s number None = refl
option_units n s number (Some t) = status_units n s number t t.status

session_units : (n : ModelNode) (s number : ℕ) (o : Option Live) → (killed_session number n s o).units ≡ n.units
session_units n s number o = option_units (sent_rollback n o) s number o ∙ units-sent_rollback n o

pub kills_units : (number : ℕ) (victims : List ℕ) (n : ModelNode) → (fold (kill_session number) n victims).units ≡ n.units
kills_units number [] n = refl
kills_units number (v ∷ vs) n = kills_units number vs (kill_session number n v) ∙ session_units n v number (get n.live v)

-- who has locks afterwards is as before
pub kills_fewer : (number : ℕ) (victims : List ℕ) (n : ModelNode) (o : ℕ) (u : Live)
    → get (fold (kill_session number) n victims).live o ≡ Some u → has_locks u.status ≡ true → get n.live o ≡ Some u
kills_fewer number [] n o u there locks = there
kills_fewer number (v ∷ vs) n o u there locks =
    (kill_leaves number n v).fewer o u (kills_fewer number vs (kill_session number n v) o u there locks) locks

-- and who was killed has none
pub kills_unlock : (number : ℕ) (victims : List ℕ) (n : ModelNode) (o : ℕ) (u : Live) → In o victims
    → get (fold (kill_session number) n victims).live o ≡ Some u → has_locks u.status ≡ false
kills_unlock number [] n o u i there = absurd i
kills_unlock number (v ∷ vs) n o u (inl same) there =
    false_from_ne_true (has_locks u.status) (λ locks.
    true≢false (sym locks ∙ (kill_leaves number n v).unlocked u
    (subst (λ (x : ℕ). get (kill_session number n v).live x ≡ Some u) same (kills_fewer number vs (kill_session number n v) o u there locks))))
kills_unlock number (v ∷ vs) n o u (inr i) there = kills_unlock number vs (kill_session number n v) o u i there
