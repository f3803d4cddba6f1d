-- An order that grows keeps the facts of a node, whatever comes behind.
use Rattle.std.proofs.Common.{◌≡◌, ℕ, zero, suc, ◌≤◌, List, [], ◌∷◌, ◌++◌, length, map, refl, ap, sym, subst, ◌∙◌, arith, drop, length-append}
use Rattle.std.specs.Prelude.{slice_get}
use Rattle.std.specs.List.{filter_map}
use Rattle.std.specs.Ordering.{nat_cmp}
use Rattle.std.proofs.lemmas.List.{take-append-le}
use Rattle.finite_map.specs.FiniteMap.{FiniteMap}
use Rattle.key_sets.specs.Keys.{Keys}
use Rattle.row_model.specs.declared.ops.Op.{Op}
use Rattle.order_event.specs.declared.event.Event.{Event}
use Rattle.order_event.specs.declared.event.Message.{Message}
use Rattle.write_set.specs.declared.write_set.WriteSet.{WriteSet}
use Rattle.write_set.specs.Reading.{decoded}
use Rattle.cert_meaning.specs.State.{FoldState, commit_numbered}
use Rattle.cert_meaning.specs.Verdict as rules
use Rattle.cert_meaning.specs.Fold.{state_at}
use Rattle.cert_meaning.proofs.FoldLaws.{state_at-append}
use Rattle.client_trx.specs.Live.{Live}
use Rattle.client_trx.specs.declared.status.Status.{Status}
use Rattle.client_trx.specs.declared.status.Status.TheVariants as status
use Rattle.node_meaning.specs.Node.{ModelNode, ApplyUnit}
use Rattle.node_meaning.specs.Units.{ops_at, ops_by}
use Rattle.node_meaning.specs.Facts.{Facts, own_body, sent_body, pending_in, sets_of, Gathered, IsFragmentOf, IsCommitOf, IsUndecided, HasFailed, Alone, One, Lost, HasPassed, StandsBy, Lined, HasUnit, commit_at}

-- ---- what is kept of its parts is kept of how a transaction stands
module _ (before after : List Event) (p c q d : ℕ) (t : Live)
    (gathers : (keys : Keys) (ops : List Op) (sent : ℕ)
    → Gathered (state_at before c) t keys ops sent
    → Gathered (state_at after d) t keys ops sent)
    (fails : HasFailed before c t.trx → HasFailed after d t.trx)
    (passes : (number : ℕ) → HasPassed before p c t number → HasPassed after q d t number) where
  fragment_kept : (mine : List WriteSet)
      → Alone (IsFragmentOf (state_at before c) t) (HasFailed before c t.trx) mine
      → Alone (IsFragmentOf (state_at after d) t) (HasFailed after d t.trx) mine
  fragment_kept mine (One w is h) =
      One w is (record {
        number = h.number;
        flags = h.flags;
        no_keys = h.no_keys;
        no_ops = h.no_ops;
        gathered = gathers w.keys w.ops w.fragment h.gathered;
      })
  fragment_kept mine (Lost none failed) = Lost none (fails failed)

  commit_kept : (mine : List WriteSet)
      → Alone (IsCommitOf (state_at before c) t) (HasFailed before c t.trx) mine
      → Alone (IsCommitOf (state_at after d) t) (HasFailed after d t.trx) mine
  commit_kept mine (One w is h) =
      One w is (record {
        number = h.number;
        flags = h.flags;
        gathered = gathers w.keys w.ops w.fragment h.gathered;
      })
  commit_kept mine (Lost none failed) = Lost none (fails failed)

  pub stands_kept : (mine : List WriteSet) (st : Status) → StandsBy before p c mine t st
      → StandsBy after q d mine t st
  stands_kept mine status.Running h = (h.0, gathers t.new_keys t.new_ops t.sent h.1)
  stands_kept mine status.FragmentSent h = fragment_kept mine h
  stands_kept mine status.CommitSent h = commit_kept mine h
  stands_kept mine (status.Certified number) h = (h.0, passes number h.1)
  stands_kept mine status.KilledSent h = commit_kept mine h
  stands_kept mine (status.Replaying number) h = (h.0, passes number h.1)

get_front : {A : Type 0} (xs ys : List A) (n : ℕ) → suc n ≤ length xs
    → slice_get (xs ++ ys) n ≡ slice_get xs n
get_front [] ys n below = absurd (omega (arith, below))
get_front (x ∷ xs) ys zero below = refl
get_front (x ∷ xs) ys (suc n) below = get_front xs ys n (omega (arith, below))

module _ (order more : List Event) where
  -- ---- the order
  pub commit_at-append : (number : ℕ) → number ≤ length order
      → commit_at (order ++ more) number ≡ commit_at order number
  commit_at-append number fits = ap (λ (s : FoldState). commit_numbered number s.commits)
      (state_at-append order more number fits)

  pub ops_at-append : (number : ℕ) → number ≤ length order
      → ops_at (order ++ more) number ≡ ops_at order number
  ops_at-append zero fits = refl
  ops_at-append (suc n) fits =
      ap (λ s. ops_by s (slice_get (order ++ more) n))
      (state_at-append order more n (omega (arith, fits)))
      ∙ ap (ops_by (state_at order n)) (get_front order more n fits)

  pub pending-append : (member certified taken : ℕ) (queue : List Message) → taken ≤ length order
      → pending_in (order ++ more) member certified taken queue
      ≡ pending_in order member certified taken queue
  pending-append member certified taken queue fits =
      ap (λ events. filter_map (own_body member)
      (drop certified events) ++ filter_map sent_body queue)
      (take-append-le taken order more fits)

  -- ---- live transactions
  module _ (p c : ℕ) (inside : c ≤ length order) where
    failed-append : (t : Live) → HasFailed order c t.trx → HasFailed (order ++ more) c t.trx
    failed-append t h =
        let within : suc h.before ≤ length order = omega (arith, h.within, inside) in
        record {
          before = h.before;
          within = h.within;
          body = h.body;
          there = get_front order more h.before within ∙ h.there;
          set = h.set;
          is = h.is;
          of_trx = h.of_trx;
          undecided = subst (λ s. IsUndecided (rules.verdict s t.trx.member h.set))
              (sym (state_at-append order more h.before (omega (arith, within)))) h.undecided;
        }

    passed-append : (t : Live) (number : ℕ) → HasPassed order p c t number
        → HasPassed (order ++ more) p c t number
    passed-append t number h =
        let fits : number ≤ length order = omega (arith, h.within, inside) in
        record {
          above = h.above;
          within = h.within;
          is_commit = commit_at-append number fits ∙ h.is_commit;
          changes = ops_at-append number fits ∙ h.changes;
        }

    lined-append : (m b serial : ℕ) (live : FiniteMap nat_cmp Live) (sets : List WriteSet)
        → Lined order m b serial p c live sets
        → Lined (order ++ more) m b serial p c live sets
    lined-append m b serial live sets l = record {
      ours = l.ours;
      serials = l.serials;
      each = λ s t is.
          let h = l.each s t is in record {
            of_member = h.of_member;
            begun = h.begun;
            stands = stands_kept order (order ++ more) p c p c t
                (λ keys ops sent. subst (λ s. Gathered s t keys ops sent)
                (sym (state_at-append order more c inside)))
                (failed-append t) (passed-append t) (sets_of t.trx.begin sets) t.status h.stands;
          };
      begins = l.begins;
    }

  -- ---- units
  unit-append : (committed certified number : ℕ) (u : ApplyUnit) → certified ≤ length order
      → HasUnit order committed certified number u
      → HasUnit (order ++ more) committed certified number u
  unit-append committed certified number u fits h =
      let within : number ≤ certified = h.within in
      record {
        above = h.above;
        within = h.within;
        item = h.item;
        is_commit = commit_at-append number (omega (arith, within, fits)) ∙ h.is_commit;
        keys = h.keys;
        clear = λ earlier c above below is.
            h.clear earlier c above below
            (sym (commit_at-append earlier (omega (arith, below, within, fits))) ∙ is);
      }

-- the facts stay when the order grows
pub facts_grow : (order more : List Event) (n : ModelNode) → Facts order n → Facts (order ++ more) n
facts_grow order more n facts =
    let in_order = facts.in_order in
    let fits : n.at.certified ≤ length order =
    omega (arith, in_order.certified_fits, in_order.taken_fits) in
    record {
      in_order = record {
        committed_fits = in_order.committed_fits;
        certified_fits = in_order.certified_fits;
        taken_fits = omega (arith, in_order.taken_fits, length-append order more);
      };
      sendable = facts.sendable;
      sent = record {
        sets = facts.sent.sets;
        are = ap (map decoded) (pending-append order more n.at.member n.at.certified n.at.taken
            (n.ordered ++ n.outbox) in_order.taken_fits) ∙ facts.sent.are;
        lined = lined-append order more n.at.committed n.at.certified fits n.at.member n.at.begin
            n.at.serial n.live facts.sent.sets facts.sent.lined;
      };
      units = λ k u there. unit-append order more n.at.committed n.at.certified k u fits
          (facts.units k u there);
      remote = facts.remote;
      apart = facts.apart;
    }
