-- What an event does to a member's standing, to the floor, and to transactions that it is not of.
use Rattle.std.proofs.Common.{◌≡◌, ℕ, ◌+◌, ◌≤◌, Bool, true, false, cond, List, [], ◌∷◌, ◌++◌, inl, inr, Option, Some, None, refl, ap, sym, ◌∙◌, arith, eq-eqb, true≢false}
use Rattle.std.specs.Prelude.{◌==◌, not, ◌||◌, ◌&&◌, map, unwrap_or, nat_le, nat_lt}
use Rattle.std.specs.List.{list_any}
use Rattle.std.specs.Option.{option_map_or}
use Rattle.std.specs.Ordering.{nat_cmp, eq_by_cmp}
use Rattle.std.specs.FinMap.Entries.{find}
use Rattle.std.specs.Cmp.{nat_cmp_total}
use Rattle.std.proofs.lemmas.Bool.{false_from_ne_true, cases_Bool, cases_eq, cond_both, cond-true, or_right, not_from_false}
use Rattle.finite_map.specs.FiniteMap.{FiniteMap, get, insert, values, get-retain_keys, get-from_entries}
use Rattle.finite_map.proofs.Edits.{numbers, tied, itself, get-put, get-put_beside, get-taken_beside}
use Rattle.wsrep_base.specs.declared.ids.TrxId.{TrxId}
use Rattle.wsrep_base.specs.Trx.{trx_cmp, least}
use Rattle.wsrep_base.specs.declared.verdict.Verdict.{Verdict}
use Rattle.wsrep_base.specs.declared.verdict.Verdict.TheVariants as verdict
use Rattle.wsrep_base.specs.declared.verdict.Judged.TheVariants as became
use Rattle.key_sets.proofs.ListLemmas.{In}
use Rattle.order_event.specs.declared.event.Event.{Event}
use Rattle.order_event.specs.declared.event.Event.TheVariants.{Write, View, Report}
use Rattle.write_set.specs.declared.write_set.WriteSet.{WriteSet}
use Rattle.write_set.specs.Reading.{decoded}
use Rattle.cert_meaning.specs.declared.members.Standing.{Standing}
use Rattle.cert_meaning.specs.State.{FoldState, is_member, fragments_of}
use Rattle.cert_meaning.specs.Verdict as rules
use Rattle.cert_meaning.specs.Verdict.{trx_of, is_end, is_rollback}
use Rattle.cert_meaning.specs.Fold.{Effect, Same, Adds, effect_of, affected, written, reported, is_of, standing_in, changed_by, after, judged_as, judged_write, fragment_by}
use Rattle.cert_meaning.proofs.TrxLemmas.{trx_exact, transactions}
use Rattle.node_meaning.proofs.EntryLaws.{in_from_get}
use Rattle.node_laws.proofs.SetLists.{equal, unequal}
use Rattle.course_laws.specs.Laws.{IsByConflict}

-- ---- the effect of a write set
-- it changes nothing where it names another member
stranger_same : (s : FoldState) (sender : ℕ) (w : WriteSet) → w.member == sender ≡ false
    → effect_of (judged_write s sender (Some w)) ≡ Same
unfolding rules.verdict
stranger_same s sender w differs = ap (λ v. effect_of (judged_as w v))
    (cond-true (not (is_member s sender) || not (w.member == sender)) verdict.Stranger _
    (or_right (not (is_member s sender)) _ (not_from_false _ differs)))

-- ---- transactions
module _ (s : FoldState) (w : WriteSet) (trx : TrxId)
    (differs : eq_by_cmp trx_cmp trx (trx_of w) ≡ false) where
  kept_affected : (effect : Effect) → get (affected s w effect).open_trx trx ≡ get s.open_trx trx
  kept_affected Same = refl
  kept_affected Adds = get-put_beside transactions s.open_trx (trx_of w)
      (fragments_of s (trx_of w) ++ fragment_by s w ∷ []) trx differs
  kept_affected _ = get-taken_beside transactions s.open_trx (trx_of w) trx differs

-- an event that is none of the transaction's, and no view without its member
abbrev pub IsApart : Event → TrxId → Type 0
IsApart (Write sender body) trx =
    (w : WriteSet) → decoded body ≡ Some w → sender ≡ trx.member → trx_of w ≡ trx → ⊥
IsApart (View version members) trx = is_of members trx ≡ true
IsApart (Report sender number) trx = Unit {0}

kept_body : (s : FoldState) (sender : ℕ) (body : List ℕ) (trx : TrxId) (o : Option WriteSet)
    → decoded body ≡ o → IsApart (Write sender body) trx
    → get (written s sender o).open_trx trx ≡ get s.open_trx trx
kept_body s sender body trx None is apart = refl
kept_body s sender body trx (Some w) is apart =
    let effect = effect_of (judged_write s sender (Some w)) in
    elim (cases_Bool (w.member == sender)) [
      | inl named ↦
          elim (cases_Bool (eq_by_cmp trx_cmp trx (trx_of w))) [
            | inl same ↦
                let of_trx : trx_of w ≡ trx = sym (tied transactions trx (trx_of w) same) in
                absurd (apart w is (sym (equal w.member sender named)
                ∙ ap (λ (t : TrxId). t.member) of_trx) of_trx)
            | inr differs ↦ kept_affected s w trx differs effect
          ]
      | inr other ↦ ap (λ x. get (affected s w x).open_trx trx) (stranger_same s sender w other)
    ]

open_reported : (s : FoldState) (member number : ℕ) (o : Option Standing)
    → (reported s member number o).open_trx ≡ s.open_trx
open_reported s member number None = refl
open_reported s member number (Some standing) =
    cond_both _ _ s (λ (t : FoldState). t.open_trx ≡ s.open_trx) (λ _. refl) (λ _. refl)

-- the transaction stays where it was
pub kept_open : (s : FoldState) (e : Event) (trx : TrxId) → IsApart e trx
    → get (after s e).open_trx trx ≡ get s.open_trx trx
unfolding after
kept_open s (Write sender body) trx apart = kept_body s sender body trx (decoded body) refl apart
kept_open s (View version members) trx apart =
    get-retain_keys s.open_trx (is_of members) trx
    (λ x same. ap (is_of members) (sym (trx_exact trx x same))) ∙ rw apart
kept_open s (Report sender number) trx apart =
    ap (λ opens. get opens trx) (open_reported s sender number (get s.members sender))

-- ---- members
other_key : (m k : ℕ) → m == k ≡ false → eq_by_cmp nat_cmp m k ≡ false
other_key m k differs = false_from_ne_true (eq_by_cmp nat_cmp m k)
    (λ same. true≢false (sym (eq-eqb m k (tied numbers m k same)) ∙ differs))

serial_kept : (members : FiniteMap nat_cmp Standing) (k serial m : ℕ) (o : Option Standing)
    → m == k ≡ false
    → get (option_map_or (λ (st : Standing). insert members k (record st { serial = serial })) o
    members) m ≡ get members m
serial_kept members k serial m None differs = refl
serial_kept members k serial m (Some st) differs =
    get-put_beside numbers members k (record st { serial = serial }) m (other_key m k differs)

affected_kept : (s : FoldState) (w : WriteSet) (m : ℕ) (effect : Effect) → m == w.member ≡ false
    → get (affected s w effect).members m ≡ get s.members m
affected_kept s w m Same differs = refl
affected_kept s w m _ differs =
    serial_kept s.members w.member w.serial m (get s.members w.member) differs

foreign_body : (s : FoldState) (sender m : ℕ) (o : Option WriteSet) → m == sender ≡ false
    → get (written s sender o).members m ≡ get s.members m
foreign_body s sender m None differs = refl
foreign_body s sender m (Some w) differs =
    elim (cases_Bool (w.member == sender)) [
      | inl named ↦
          affected_kept s w m (effect_of (judged_write s sender (Some w)))
          (ap (λ k. m == k) (equal w.member sender named) ∙ differs)
      | inr other ↦ ap (λ x. get (affected s w x).members m) (stranger_same s sender w other)
    ]

-- a write set of another member leaves a member as it was
pub member_foreign : (s : FoldState) (sender : ℕ) (body : List ℕ) (m : ℕ) → m == sender ≡ false
    → get (after s (Write sender body)).members m ≡ get s.members m
unfolding after
member_foreign s sender body m differs = foreign_body s sender m (decoded body) differs

-- the member's own one that is decided gives it its serial
passed_effect : (back end : Bool)
    → effect_of (cond back became.Rollback (cond end became.Commit became.Fragment)) ≡ Same → ⊥
passed_effect true end is = cc
passed_effect false true is = cc
passed_effect false false is = cc

decided_effect : (w : WriteSet) (v : Verdict) → IsByConflict v
    → effect_of (judged_as w v) ≡ Same → ⊥
decided_effect w verdict.Pass h = passed_effect (is_rollback w) (is_end w)
decided_effect w (verdict.Conflict v) h = λ is. cc
decided_effect w (verdict.Held v) h = λ is. cc
decided_effect w _ h = absurd h

own_affected : (s : FoldState) (w : WriteSet) (m : ℕ) (st : Standing) (effect : Effect)
    → (effect ≡ Same → ⊥) → w.member ≡ m → get s.members m ≡ Some st
    → get (affected s w effect).members m ≡ Some (record st { serial = w.serial })
own_affected s w m st Same counts named is = absurd (counts refl)
own_affected s w m st _ counts named is =
    rw (named, is) (get-put numbers s.members m (record st { serial = w.serial }))

pub member_own : (s : FoldState) (m : ℕ) (body : List ℕ) (w : WriteSet) (st : Standing)
    → decoded body ≡ Some w → w.member ≡ m → IsByConflict (rules.verdict s m w)
    → get s.members m ≡ Some st
    → get (after s (Write m body)).members m ≡ Some (record st { serial = w.serial })
unfolding after
member_own s m body w st read named decided is =
    ap (λ o. get (written s m o).members m) read
    ∙ own_affected s w m st (effect_of (judged_write s m (Some w)))
    (decided_effect w (rules.verdict s m w) decided) named is

-- ---- views and reports
find_mapped : (f : ℕ → Standing) (ms : List ℕ) (m : ℕ) → find nat_cmp m (map (λ k. (k, f k)) ms)
    ≡ cond (list_any (λ k. k == m) ms) (Some (f m)) None
find_mapped f [] m = refl
find_mapped f (k ∷ ms) m =
    elim (cases_eq k m) [
      | inl same ↦ rw (same, itself numbers m, eq-eqb m m refl)
      | inr differs ↦
          let other = false_from_ne_true _ (λ tie. differs (sym (tied numbers m k tie))) in
          rw (other, unequal k m differs) (find_mapped f ms m)
    ]

-- after a view its members stand as they did, and one that was not there enters with its number
pub in_view : (s : FoldState) (version : ℕ) (members : List ℕ) (m : ℕ)
    → get (after s (View version members)).members m
    ≡ cond (list_any (λ k. k == m) members) (Some (standing_in s.members (s.number + 1) m)) None
unfolding after
in_view s version members m =
    get-from_entries nat_cmp_total
    (map (λ k. (k, standing_in s.members (s.number + 1) k)) members) m
    ∙ find_mapped (standing_in s.members (s.number + 1)) members m

pub member_viewed : (s : FoldState) (version : ℕ) (members : List ℕ) (m : ℕ) (o : Option Standing)
    → list_any (λ k. k == m) members ≡ true → get s.members m ≡ o
    → get (after s (View version members)).members m
    ≡ Some (unwrap_or o (record { report = s.number + 1; serial = 0 }))
member_viewed s version members m o has is =
    rw (in_view s version members m, has, is)

pub member_view : (s : FoldState) (version : ℕ) (members : List ℕ) (m : ℕ) (st : Standing)
    → list_any (λ k. k == m) members ≡ true → get s.members m ≡ Some st
    → get (after s (View version members)).members m ≡ Some st
member_view s version members m st = member_viewed s version members m (Some st)

-- a report of another member leaves it as it was
reported_kept : (s : FoldState) (sender number m : ℕ) (o : Option Standing) → m == sender ≡ false
    → get (reported s sender number o).members m ≡ get s.members m
reported_kept s sender number m None differs = refl
reported_kept s sender number m (Some st) differs =
    cond_both _ _ s (λ (t : FoldState). get t.members m ≡ get s.members m)
    (λ _. get-put_beside numbers s.members sender (record st { report = number }) m
    (other_key m sender differs)) (λ _. refl)

pub member_report_foreign : (s : FoldState) (sender number m : ℕ) → m == sender ≡ false
    → get (after s (Report sender number)).members m ≡ get s.members m
unfolding after
member_report_foreign s sender number m differs =
    reported_kept s sender number m (get s.members sender) differs

-- how a member stands after its own report, which is not below the one before: it rises to it, or
-- stays below it
pub record IsReported (s : FoldState) (m number : ℕ) (st : Standing) : Type 0 where
  pub now : Standing
  pub stands : get (after s (Report m number)).members m ≡ Some now
  pub serial : now.serial ≡ st.serial
  pub report : now.report ≤ number

pub member_reported : (s : FoldState) (m number : ℕ) (st : Standing) → get s.members m ≡ Some st
    → st.report ≤ number → IsReported s m number st
unfolding after
member_reported s m number st is below =
    let risen : Standing = record st { report = number } in
    cond_both (nat_le st.report number && nat_lt number (s.number + 1))
    (record s { members = insert s.members m risen }) s
    (λ (t : FoldState). (after s (Report m number)).members ≡ t.members → IsReported s m number st)
    (λ _ all. record {
      now = risen;
      stands = ap (λ ms. get ms m) all ∙ get-put numbers s.members m risen;
      serial = refl;
      report = omega arith;
    })
    (λ _ all. record {
      now = st;
      stands = ap (λ ms. get ms m) all ∙ is;
      serial = refl;
      report = below;
    })
    (ap (λ o. (reported s m number o).members) is)

-- ---- the floor
least_below : (ns : List ℕ) (k d : ℕ) → In k ns → unwrap_or (least ns) d ≤ k
least_below [] k d i = absurd i
least_below (n ∷ ns) k d (inl same) = omega (arith, same)
least_below (n ∷ ns) k d (inr later) = omega (arith, least_below ns k n later)

report_in : (m : ℕ) (st : Standing) (es : List (ℕ × Standing)) → In (m, st) es
    → In st.report (map (λ (x : Standing). x.report) (map (λ e. e.1) es))
report_in m st [] i = absurd i
report_in m st (e ∷ es) (inl same) = inl (ap (λ (p : ℕ × Standing). p.1.report) same)
report_in m st (e ∷ es) (inr later) = inr (report_in m st es later)

-- it is not above the report of a member
pub floor_below : (s : FoldState) (e : Event) (m : ℕ) (st : Standing)
    → get (after s e).members m ≡ Some st → (after s e).floor ≤ st.report
unfolding after
floor_below s e m st is =
    let t = changed_by s e in
    least_below (map (λ (x : Standing). x.report) (values t.members)) st.report t.floor
    (report_in m st t.members.entries (in_from_get t.members m st is))
