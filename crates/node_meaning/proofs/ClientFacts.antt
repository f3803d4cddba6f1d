-- Every client call keeps what holds of a node.
use Rattle.std.proofs.Common.{◌≡◌, ℕ, ◌+◌, ◌≤◌, ◌<◌, Bool, true, false, cond, List, [], ◌∷◌, length, Option, None, Some, refl, ap, arith, length-append}
use Rattle.std.specs.Prelude.{◌==◌, ◌&&◌, not, IfSome, IsTrue, is_some, is_none, option_map}
use Rattle.std.specs.Ordering.{nat_cmp}
use Rattle.std.proofs.lemmas.Bool.Decides.{nat_tests}
use Rattle.finite_map.proofs.Edits.{numbers, each_put, each_left}
use Rattle.finite_map.specs.FiniteMap.{FiniteMap, empty, insert, remove, get-empty, len-empty}
use Rattle.key_sets.specs.declared.kind.Kind.{Kind}
use Rattle.key_sets.specs.Parts.{parts_cmp}
use Rattle.row_model.specs.declared.ops.Op.{Op}
use Rattle.row_model.specs.declared.calls.Reply.TheVariants as reply
use Rattle.row_model.specs.Names.{place_fits}
use Rattle.write_set.specs.Rules.{row_parts, place_in_range, OpInRange}
use Rattle.client_trx.specs.KeyedOps.{Keyed, IsKeyOf, IsPart, with_op, is_over}
use Rattle.client_trx.specs.Live.{Live, begun, is_due, is_running, with_status, fragment_sent, whole_of, newest_of}
use Rattle.client_trx.specs.declared.status.Status.{Status}
use Rattle.client_trx.specs.declared.status.Status.TheVariants as status
use Rattle.node_meaning.specs.Client.{Statement, Met, first_line, where_true, is_insert, busy_reply, missing_column, refusal, extended}
use Rattle.node_meaning.specs.Steps.{is_local, is_certified_at}
use Rattle.node_meaning.specs.Facts.{IsSendable}
use Rattle.node_meaning.proofs.EntryLaws.{no_entry, entries_fail}
use Rattle.node_meaning.proofs.LockLaws.{lock_keys}
use Rattle.client_trx.proofs.FitLemmas.{none_fit, more_fit}
use Rattle.client_trx.proofs.PartLemmas.{room_in_part, part_grown}
use Rattle.node_meaning.proofs.RangeLaws.{with_key-in_range, empty-in_range, with_op-in_range}

-- ---- live transactions after one edit

module _ (live : FiniteMap nat_cmp Live) (session : ℕ) where
  -- no transaction is certified at a number
  pub remote_put : (number : ℕ) (u : Live) → is_local live number ≡ false → is_certified_at number u.status ≡ false
      → is_local (insert live session u) number ≡ false
  remote_put number u none new =
      entries_fail (insert live session u) (λ e. is_certified_at number e.1.status)
      (each_put numbers live session (λ _ t. is_certified_at number t.status ≡ false)
      (λ s t is. no_entry live (λ e. is_certified_at number e.1.status) s t none is) u new)

  pub remote_left : (number : ℕ) → is_local live number ≡ false → is_local (remove live session) number ≡ false
  remote_left number none =
      entries_fail (remove live session) (λ e. is_certified_at number e.1.status)
      (each_left numbers live session (λ _ t. is_certified_at number t.status ≡ false)
      (λ s t is. no_entry live (λ e. is_certified_at number e.1.status) s t none is))

pub running_where : (s : Status) → is_running s ≡ true → s ≡ status.Running
running_where status.Running h = refl
running_where status.FragmentSent h = cc
running_where status.CommitSent h = cc
running_where (status.Certified n) h = cc
running_where status.KilledSent h = cc
running_where (status.Replaying n) h = cc

-- ---- a transaction begins

abbrev pub first : ℕ → ℕ → ℕ → Live
first member begin unit = begun (record { member = member; begin = begin }) unit

none_part : (whole : Keyed) → IsPart whole (record { keys = empty; ops = [] })
none_part whole = record { keys = λ p none. get-empty parts_cmp p; ops = omega arith }

pub sendable_first : (member begin unit : ℕ) → IsSendable (first member begin unit)
sendable_first member begin unit = record {
  fit = none_fit empty [] refl refl;
  part = none_part (record { keys = empty; ops = [] });
  newest = none_fit empty [] refl refl;
  range = (empty-in_range, tt);
  few = omega arith;
}

pub no_lock : lock_keys true empty ≡ None
no_lock = ap (λ n. cond (n == 0) None (Some empty)) (len-empty parts_cmp Kind)

-- ---- a statement

first_none : {A : Type 0} (o : Option A) (os : List (Option A)) → first_line (o ∷ os) ≡ None → (o ≡ None) × (first_line os ≡ None)
first_none None os none = (refl, none)
first_none (Some a) os none = cc

six_none : {A : Type 0} (a b c d e g : Option A) → first_line (a ∷ b ∷ c ∷ d ∷ e ∷ g ∷ []) ≡ None → (b ≡ None) × (g ≡ None)
six_none a b c d e g none =
    let second = first_none a (b ∷ c ∷ d ∷ e ∷ g ∷ []) none in
    let third = first_none b (c ∷ d ∷ e ∷ g ∷ []) second.1 in
    let fourth = first_none c (d ∷ e ∷ g ∷ []) third.1 in
    let fifth = first_none d (e ∷ g ∷ []) fourth.1 in
    let sixth = first_none e (g ∷ []) fifth.1 in
    (third.0, (first_none g [] sixth.1).0)

map_none : {A B : Type 0} (f : A → B) (o : Option A) → option_map f o ≡ None → o ≡ None
map_none f None none = refl
map_none f (Some a) none = cc

where_none : {A : Type 0} (b : Bool) (a : A) → where_true b a ≡ None → b ≡ false
where_none true a none = cc
where_none false a none = refl

-- a statement that is not refused meets no other holder, and does not make its transaction too large
pub record IsFree (met : Met) : Type 0 where
  pub free : met.blocker ≡ None
  pub room : met.large ≡ false

pub free_of : (met : Met) (change : Option Op) → refusal met change ≡ None → IsFree met
free_of met change none =
    let both = six_none (option_map reply.HeldBy met.held) (option_map busy_reply met.blocker)
    (where_true (is_insert change && is_some met.row) reply.Duplicate)
    (where_true (not (is_insert change) && is_none met.row) reply.NoRow)
    (option_map reply.NoColumn (missing_column change met.row)) (where_true met.large reply.TooLarge) none in
    record { free = map_none busy_reply met.blocker both.0; room = where_none met.large reply.TooLarge both.1 }

-- a statement whose names have their form and whose values are in range
pub record StatementFits (st : Statement) : Type 0 where
  pub names : IsTrue (place_fits st.id)
  pub key : IfSome st.change (λ op. IsKeyOf (row_parts st.id) st.kind op)
  pub place : place_in_range st.id
  pub change : IfSome st.change OpInRange

one_more : (t : Live) (change : Option Op) → t.sent + length t.new_ops ≤ length t.ops
    → t.sent + length (with_op t.new_ops change) ≤ length (with_op t.ops change)
one_more t None few = few
one_more t (Some op) few = omega (arith, few, length-append t.new_ops (op ∷ []), length-append t.ops (op ∷ []))

pub sendable_extended : (t : Live) (st : Statement) → StatementFits st → is_over (whole_of (extended t st)) ≡ false
    → IsSendable t → IsSendable (extended t st)
sendable_extended t st fits room h =
    let part = row_parts st.id in
    record {
      fit = more_fit (whole_of t) _ _ part st.kind st.change fits.names fits.key room h.fit refl refl;
      part = part_grown (whole_of t) (whole_of (extended t st)) (Some (newest_of t)) (Some (newest_of (extended t st))) part st.kind st.change h.part refl refl;
      newest = more_fit (newest_of t) _ _ part st.kind st.change fits.names fits.key
          (room_in_part (whole_of t) (Some (newest_of t)) part st.kind st.change h.part room) h.newest refl refl;
      range = (
        with_key-in_range t.new_keys part st.kind fits.place h.range.0,
        with_op-in_range t.new_ops st.change fits.change h.range.1,
      );
      few = one_more t st.change h.few;
    }

-- with another status it may send the same
pub sendable_again : (t : Live) (to : Status) → IsSendable t → IsSendable (with_status t to)
sendable_again t to h = record {
  fit = h.fit;
  part = record { keys = h.part.keys; ops = h.part.ops };
  newest = h.newest;
  range = h.range;
  few = h.few;
}

-- a fragment that is due has a change
pub due_change : (t : Live) → is_due t ≡ true → 0 < length t.new_ops
due_change t due = grind (arith, nat_tests)

-- what was sent as a fragment is sent: it has gathered nothing since
pub sendable_sent : (t : Live) → 0 < length t.new_ops → IsSendable t → IsSendable (fragment_sent t)
sendable_sent t change h = record {
  fit = h.fit;
  part = none_part (whole_of t);
  newest = none_fit empty [] refl refl;
  range = (empty-in_range, tt);
  few = omega (arith, change, h.few);
}

pub running_of : (t : Live) → not (is_running t.status) ≡ false → t.status ≡ status.Running
running_of t h = running_where t.status (by (is_running t.status) h)
  where
    by : (b : Bool) → not b ≡ false → b ≡ true
    by true h = refl
    by false h = cc
