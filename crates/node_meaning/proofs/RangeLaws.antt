-- Names and values of a transaction stay in range with one more key and change, and its commit is
-- read back.
use Rattle.std.proofs.Common.{◌≡◌, ℕ, ◌^◌, ◌<◌, ◌≤◌, true, List, [], ◌∷◌, ◌++◌, length, Option, None, Some, refl, sym, ap, subst, arith}
use Rattle.std.specs.Prelude.{nat_le, IfSome, IsTrue}
use Rattle.std.specs.List.{list_all, AllByRecursion}
use Rattle.std.specs.Result.{result_ok}
use Rattle.std.specs.declared.cmp.Ordering.{Ordering}
use Rattle.std.specs.declared.cmp.Ordering.TheVariants.{Less, Equal, Greater}
use Rattle.std.specs.FinMap.Entries.{put, by_order}
use Rattle.std.proofs.lemmas.Bool.Decides.{nat_tests}
use Rattle.finite_map.specs.FiniteMap.{empty, get, entries-insert}
use Rattle.key_sets.specs.declared.kind.Kind.{Kind}
use Rattle.key_sets.specs.declared.parts.Parts.{Parts}
use Rattle.key_sets.specs.Kinds.{raised}
use Rattle.key_sets.specs.Parts.{parts_cmp}
use Rattle.key_sets.specs.Keys.{Keys, with_key}
use Rattle.key_sets.proofs.PartsLemmas.{parts_total}
use Rattle.row_model.specs.declared.ops.Op.{Op}
use Rattle.write_set.specs.Rules.{op_fits, parts_in_range, OpInRange, KeysInRange, OpsInRange, InRange, obeys}
use Rattle.write_set.specs.Spelling.{spelling}
use Rattle.write_set.specs.Reading.{decoded}
use Rattle.write_set.proofs.RulesOf.{both}
use Rattle.write_set.proofs.WholeLaws.{read_again}
use Rattle.client_trx.specs.KeyedOps.{with_op}
use Rattle.client_trx.specs.Live.{Live, gathered, commit_flags, commit_of, fragment_flags, fragment_of, rollback_of}
use Rattle.client_trx.proofs.FitLemmas.{commit_obeys, fragment_obeys, rollback_obeys}
use Rattle.node_meaning.specs.declared.progress.Progress.{Progress}
use Rattle.node_meaning.specs.Facts.{ProgressInRange, IsSendable}

abbrev AllIn : List (Parts × Kind) → Type 0
AllIn es = AllByRecursion (λ key. parts_in_range key.0) es

placed : (p : Parts) (k : Kind) (e : Parts × Kind) (es : List (Parts × Kind)) (r : Ordering)
    → parts_in_range p → AllIn (e ∷ es)
    → AllIn (put parts_cmp p k es) → AllIn
    (by_order r ((p, k) ∷ e ∷ es) ((e.0, k) ∷ es) (e ∷ put parts_cmp p k es))
placed p k e es Less new all rest = (new, all)
placed p k e es Equal new all rest = all
placed p k e es Greater new all rest = (all.0, rest)

put_in_range : (p : Parts) (k : Kind) (es : List (Parts × Kind)) → parts_in_range p → AllIn es
    → AllIn (put parts_cmp p k es)
put_in_range p k [] new all = (new, tt)
put_in_range p k (e ∷ es) new all =
    placed p k e es (parts_cmp p e.0) new all (put_in_range p k es new all.1)

-- one more key in range
pub with_key-in_range : (keys : Keys) (p : Parts) (k : Kind) → parts_in_range p → KeysInRange keys
    → KeysInRange (with_key keys p k)
unfolding with_key
with_key-in_range keys p k new all =
    subst AllIn (sym (entries-insert parts_total keys p (raised (get keys p) k)))
    (put_in_range p (raised (get keys p) k) keys.entries new all)

pub empty-in_range : KeysInRange empty
unfolding empty
empty-in_range = tt

push_in_range : (ops : List Op) (o : Op) → OpInRange o → OpsInRange ops → OpsInRange (ops ++ o ∷ [])
push_in_range [] o new all = (new, tt)
push_in_range (first ∷ ops) o new all = (all.0, push_in_range ops o new all.1)

-- one more change in range, where there is one
pub with_op-in_range : (ops : List Op) (o : Option Op) → IfSome o OpInRange → OpsInRange ops
    → OpsInRange (with_op ops o)
with_op-in_range ops None new all = all
with_op-in_range ops (Some o) new all = push_in_range ops o new all

-- ---- what is sent is read back
few_ops : (n limit : ℕ) → nat_le n limit ≡ true → n ≤ limit
few_ops n limit few = grind (arith, nat_tests)

-- what a live transaction of the node sends by the rules is read as it was sent
module _ (at : Progress) (t : Live) (range : ProgressInRange at) (member : t.trx.member ≡ at.member)
    (begun : t.trx.begin < at.begin) (h : IsSendable t) where
  in_range : (flags : ℕ) → InRange (gathered t at.serial at.committed flags)
  in_range flags =
      let below = range.begin in
      let ops = few_ops (length t.ops) 8192
      (both (nat_le (length t.ops) 8192) (list_all op_fits t.ops) h.fit.op_names).0 in
      record {
        member = subst (λ m. m < 2 ^ 32) (sym member) range.member;
        serial = range.serial;
        begin = omega (arith, begun, below);
        fragment = omega (arith, h.few, ops);
        last_seen = range.committed;
        keys = h.range.0;
        ops = h.range.1;
      }

  pub sent_again : (flags : ℕ) → IsTrue (obeys (gathered t at.serial at.committed flags))
      → decoded (spelling (gathered t at.serial at.committed flags))
      ≡ Some (gathered t at.serial at.committed flags)
  sent_again flags rules = ap result_ok
      (read_again (gathered t at.serial at.committed flags) (in_range flags) rules)

  -- its commit
  pub commit-decoded : decoded (spelling (commit_of t at.serial at.committed))
      ≡ Some (commit_of t at.serial at.committed)
  commit-decoded = sent_again (commit_flags t.sent)
      (commit_obeys (commit_of t at.serial at.committed) refl h.newest)

  -- its next fragment
  pub fragment-decoded : decoded (spelling (fragment_of t at.serial at.committed))
      ≡ Some (fragment_of t at.serial at.committed)
  fragment-decoded = sent_again (fragment_flags t.sent)
      (fragment_obeys (fragment_of t at.serial at.committed) refl h.newest)

  -- the rollback of its fragments, which has no key and no change
  pub rollback-decoded : decoded (spelling (rollback_of t at.serial at.committed))
      ≡ Some (rollback_of t at.serial at.committed)
  rollback-decoded =
      let below = range.begin in
      let own : InRange (rollback_of t at.serial at.committed) = record {
        member = subst (λ m. m < 2 ^ 32) (sym member) range.member;
        serial = range.serial;
        begin = omega (arith, begun, below);
        fragment = omega arith;
        last_seen = range.committed;
        keys = empty-in_range;
        ops = tt;
      } in
      ap result_ok (read_again (rollback_of t at.serial at.committed) own
      (rollback_obeys (rollback_of t at.serial at.committed) refl refl refl refl))
