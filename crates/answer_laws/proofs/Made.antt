-- A passed commit is made by a write set of its sender that ends its transaction.
use Rattle.std.proofs.Common.{◌≡◌, ℕ, zero, suc, ◌≤◌, true, List, length, Option, Some, None, refl, ap, sym, ◌∙◌, add-one, arith}
use Rattle.std.proofs.lemmas.Option.{same_Some}
use Rattle.wsrep_base.specs.declared.ids.TrxId.{TrxId}
use Rattle.wsrep_base.specs.declared.verdict.Verdict.{Verdict}
use Rattle.wsrep_base.specs.declared.verdict.Verdict.TheVariants as verdict
use Rattle.order_event.specs.declared.event.Event.{Event}
use Rattle.order_event.specs.declared.event.Event.TheVariants as event
use Rattle.write_set.specs.declared.write_set.WriteSet.{WriteSet}
use Rattle.write_set.specs.Reading.{decoded}
use Rattle.cert_meaning.specs.declared.items.CommitItem.{CommitItem}
use Rattle.cert_meaning.specs.State.{FoldState, no_events}
use Rattle.cert_meaning.specs.Verdict as rules
use Rattle.cert_meaning.specs.Verdict.{trx_of, is_end, is_rollback}
use Rattle.cert_meaning.specs.Fold.{Effect, Commits, effect_of, judged_as, judged_write, state_at, commit_of, commit_made, commit_written, commit_by}
use Rattle.cert_meaning.proofs.FoldLaws.{some_there}
use Rattle.node_meaning.specs.Facts.{commit_at}
use Rattle.node_meaning.proofs.PassedLaws.{commit_at-is}
use Rattle.answer_laws.specs.Answers.{IsWriteAt, PassesAt}

-- what passes is of its sender
pub of_sender : (s : FoldState) (member : ℕ) (w : WriteSet)
    → rules.verdict s member w ≡ verdict.Pass → w.member ≡ member
unfolding rules.verdict
of_sender s member w is =
    grind arith

commits_pass : (w : WriteSet) (v : Verdict) → effect_of (judged_as w v) ≡ Commits
    → v ≡ verdict.Pass
commits_pass w v h = grind arith

end_by : (w : WriteSet) → effect_of (judged_as w verdict.Pass) ≡ Commits → is_end w ≡ true
end_by w h = grind arith

-- the event that made a commit
pub record IsMadeBy (s : FoldState) (e : Event) (c : CommitItem) : Type 0 where
  pub body : List ℕ
  pub set : WriteSet
  pub event_is : e ≡ event.Write c.trx.member body
  pub is : decoded body ≡ Some set
  pub of_trx : trx_of set ≡ c.trx
  pub ends : is_end set ≡ true
  pub passes : rules.verdict s set.member set ≡ verdict.Pass

module _ (s : FoldState) (sender : ℕ) (body : List ℕ) (c : CommitItem) where
  made_by : (w : WriteSet) (effect : Effect) → effect_of (judged_write s sender (Some w)) ≡ effect
      → decoded body ≡ Some w → commit_made s w effect ≡ Some c
      → IsMadeBy s (event.Write sender body) c
  made_by w Commits is read made =
      let pass = commits_pass w (rules.verdict s sender w) is in
      let home = of_sender s sender w pass in
      let commit : commit_by s w ≡ c = same_Some (commit_by s w) c made in
      let of_trx : trx_of w ≡ c.trx = ap (λ (x : CommitItem). x.trx) commit in
      record {
        body = body;
        set = w;
        event_is = ap (λ k. event.Write k body)
            (sym home ∙ ap (λ (x : TrxId). x.member) of_trx);
        is = read;
        of_trx = of_trx;
        ends = end_by w
            (ap (λ v. effect_of (judged_as w v)) (sym pass) ∙ is);
        passes = ap (λ k. rules.verdict s k w) home ∙ pass;
      }
  made_by w _ is read made = cc

  made_body : (o : Option WriteSet) → decoded body ≡ o → commit_written s sender o ≡ Some c
      → IsMadeBy s (event.Write sender body) c
  made_body None read made = cc
  made_body (Some w) read made =
      made_by w (effect_of (judged_write s sender (Some w))) refl read made

commit_made_by : (s : FoldState) (e : Event) (c : CommitItem) → commit_of s e ≡ Some c
    → IsMadeBy s e c
unfolding commit_of
commit_made_by s (event.Write sender body) c made =
    made_body s sender body c (decoded body) refl made
commit_made_by s _ c made = cc

-- in an order
pub record IsMadeAt (order : List Event) (k : ℕ) (c : CommitItem) : Type 0 where
  pub before : ℕ
  pub number : k ≡ suc before
  pub set : WriteSet
  pub write : IsWriteAt order before c.trx set
  pub ends : is_end set ≡ true
  pub passes : PassesAt order before set

none_first : (order : List Event) (c : CommitItem) → commit_at order 0 ≡ Some c → ⊥
unfolding state_at no_events
none_first order c is = cc

pub made_at : (order : List Event) (k : ℕ) (c : CommitItem) → k ≤ length order
    → commit_at order k ≡ Some c → IsMadeAt order k c
made_at order zero c within is = absurd (none_first order c is)
made_at order (suc j) c within is =
    let e = some_there order j within in
    let made = commit_made_by (state_at order j) e.0 c
    (sym (commit_at-is order j e.0 e.1) ∙ ap (commit_at order) (add-one j) ∙ is) in
    record {
      before = j;
      number = refl;
      set = made.set;
      write = record {
        body = made.body;
        there = e.1 ∙ ap Some made.event_is;
        is = made.is;
        of_trx = made.of_trx;
      };
      ends = made.ends;
      passes = made.passes;
    }
