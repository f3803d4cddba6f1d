-- What a transaction gathered, when it begins, when a statement adds to it, and when one more
-- fragment of it has passed.
use Rattle.std.proofs.Common.{◌≡◌, ℕ, ◌+◌, List, [], ◌∷◌, ◌++◌, length, Option, Some, None, refl, ap, sym, ◌∙◌, arith, append_assoc}
use Rattle.std.specs.Prelude.{flat_map}
use Rattle.std.proofs.lemmas.List.{append-nil}
use Rattle.std.proofs.lemmas.List.Concat.{flat_map-append}
use Rattle.finite_map.specs.FiniteMap.{empty, get, same_map}
use Rattle.key_sets.specs.declared.kind.Kind.{Kind}
use Rattle.key_sets.specs.declared.kind.Kind.TheVariants.{Shared, Update, Exclusive}
use Rattle.key_sets.specs.declared.parts.Parts.{Parts}
use Rattle.key_sets.specs.Kinds.{joined, stronger}
use Rattle.key_sets.specs.Keys.{Keys, union, with_key, one_key}
use Rattle.key_sets.proofs.PartsLemmas.{parts_total, parts_exact}
use Rattle.key_sets.proofs.UnionLemmas.{get-union}
use Rattle.key_sets.proofs.UnionLaws.{with_key-union, union-empty}
use Rattle.row_model.specs.declared.ops.Op.{Op}
use Rattle.wsrep_base.specs.declared.ids.TrxId.{TrxId}
use Rattle.cert_meaning.specs.declared.items.Fragment.{Fragment}
use Rattle.cert_meaning.specs.State.{FoldState, fragments_of, fragment_keys, whole_keys, whole_ops}
use Rattle.cert_meaning.proofs.WholeLemmas.{fragment_keys-more, whole_keys-alone}
use Rattle.client_trx.specs.KeyedOps.{with_op}
use Rattle.client_trx.specs.Live.{Live, begun, added}
use Rattle.node_meaning.specs.Facts.{Gathered}

no_fragment : (fs : List Fragment) → length fs ≡ 0 → fs ≡ []
no_fragment [] h = refl
no_fragment (f ∷ fs) h = absurd (omega (arith, h))

-- where nothing passed, what was gathered is what is said
pub gathered_first : (s : FoldState) (t : Live) (keys : Keys) (ops : List Op) → t.keys ≡ keys
    → t.ops ≡ ops → Gathered s t keys ops 0
gathered_first s t keys ops keys_are ops_are = record {
  first = λ none. (keys_are, ops_are);
  whole = λ none.
      let fs = no_fragment (fragments_of s t.trx) none in (
        keys_are ∙ sym (whole_keys-alone keys) ∙ ap (λ all. whole_keys all keys) (sym fs),
        ops_are ∙ ap (λ all. whole_ops all ops) (sym fs),
      );
}

-- a transaction that begins has gathered nothing
pub gathered_begun : (s : FoldState) (trx : TrxId) (unit : ℕ)
    → Gathered s (begun trx unit) empty [] 0
gathered_begun s trx unit = gathered_first s (begun trx unit) empty [] refl refl

-- another state has the same fragments of it, or none
pub data Fewer (s r : FoldState) (trx : TrxId) : Type 0 where
  Same : fragments_of r trx ≡ fragments_of s trx → Fewer s r trx
  Gone : fragments_of r trx ≡ [] → Fewer s r trx

pub gathered_fewer : (s r : FoldState) (t : Live) (keys : Keys) (ops : List Op) (sent : ℕ)
    → Fewer s r t.trx
    → Gathered s t keys ops sent → Gathered r t keys ops sent
gathered_fewer s r t keys ops sent (Same same) g = record {
  first = g.first;
  whole = λ count.
      let all = g.whole (ap length (sym same) ∙ count) in (
        all.0 ∙ ap (λ fs. whole_keys fs keys) (sym same),
        all.1 ∙ ap (λ fs. whole_ops fs ops) (sym same),
      );
}
gathered_fewer s r t keys ops sent (Gone none) g = record {
  first = g.first;
  whole = λ count.
      let all = g.first (sym count ∙ ap length none) in (
        all.0 ∙ sym (whole_keys-alone keys) ∙ ap (λ fs. whole_keys fs keys) (sym none),
        all.1 ∙ ap (λ fs. whole_ops fs ops) (sym none),
      );
}

-- ---- a statement
stronger-assoc : (j k l : Kind) → stronger (stronger j k) l ≡ stronger j (stronger k l)
stronger-assoc Shared k l = refl
stronger-assoc Update Shared l = refl
stronger-assoc Update Update Shared = refl
stronger-assoc Update Update Update = refl
stronger-assoc Update Update Exclusive = refl
stronger-assoc Update Exclusive l = refl
stronger-assoc Exclusive k l = refl

joined-assoc : (o p q : Option Kind) → joined (joined o p) q ≡ joined o (joined p q)
joined-assoc o p None = refl
joined-assoc o None (Some l) = refl
joined-assoc None (Some k) (Some l) = refl
joined-assoc (Some j) (Some k) (Some l) = ap Some (stronger-assoc j k l)

-- sets are joined in any grouping
pub union-assoc : (a b c : Keys) → union (union a b) c ≡ union a (union b c)
union-assoc a b c = same_map parts_total parts_exact _ _ (λ q.
    get-union (union a b) c q ∙ ap (λ o. joined o (get c q)) (get-union a b q)
    ∙ joined-assoc (get a q) (get b q) (get c q)
    ∙ ap (joined (get a q)) (sym (get-union b c q)) ∙ sym (get-union a (union b c) q))

-- one more key of the last write set is one more of the whole
whole_with_key : (fs : List Fragment) (keys : Keys) (p : Parts) (k : Kind)
    → with_key (whole_keys fs keys) p k ≡ whole_keys fs (with_key keys p k)
whole_with_key fs keys p k =
    with_key-union (whole_keys fs keys) p k ∙ union-assoc (fragment_keys fs) keys (one_key p k)
    ∙ ap (union (fragment_keys fs)) (sym (with_key-union keys p k))

whole_with_op : (fs : List Fragment) (ops : List Op) (o : Option Op)
    → with_op (whole_ops fs ops) o ≡ whole_ops fs (with_op ops o)
whole_with_op fs ops None = refl
whole_with_op fs ops (Some o) = append_assoc (flat_map (λ (f : Fragment). f.ops) fs) ops (o ∷ [])

pub gathered_added : (s : FoldState) (t : Live) (keys : Keys) (ops : List Op) (sent : ℕ) (p : Parts)
    (k : Kind) (o : Option Op)
    → Gathered s t keys ops sent → Gathered s (added t p k o) (with_key keys p k)
    (with_op ops o) sent
gathered_added s t keys ops sent p k o g = record {
  first = λ none.
      let all = g.first none in (ap (λ ks. with_key ks p k) all.0, ap (λ os. with_op os o) all.1);
  whole = λ count.
      let all = g.whole count in (
        ap (λ ks. with_key ks p k) all.0 ∙ whole_with_key (fragments_of s t.trx) keys p k,
        ap (λ os. with_op os o) all.1 ∙ whole_with_op (fragments_of s t.trx) ops o,
      );
}

-- ---- its fragment passes
one_more : (fs : List Fragment) (f : Fragment)
    → whole_keys (fs ++ f ∷ []) empty ≡ whole_keys fs f.keys
one_more fs f = union-empty (fragment_keys (fs ++ f ∷ [])) ∙ fragment_keys-more fs f

one_more_ops : (fs : List Fragment) (f : Fragment)
    → whole_ops (fs ++ f ∷ []) [] ≡ whole_ops fs f.ops
one_more_ops fs f =
    append-nil (flat_map (λ (g : Fragment). g.ops) (fs ++ f ∷ []))
    ∙ flat_map-append (λ (g : Fragment). g.ops) fs (f ∷ [])
    ∙ ap (λ os. flat_map (λ (g : Fragment). g.ops) fs ++ os) (append-nil f.ops)

-- what it gathered is then in its fragments, and nothing since
pub gathered_passed : (s r : FoldState) (t : Live) (keys : Keys) (ops : List Op) (sent : ℕ)
    (f : Fragment)
    → f.keys ≡ keys → f.ops ≡ ops → length (fragments_of s t.trx) ≡ sent
    → fragments_of r t.trx ≡ fragments_of s t.trx ++ f ∷ [] → Gathered s t keys ops sent
    → Gathered r t empty [] (sent + 1)
gathered_passed s r t keys ops sent f keys_are ops_are count grown g = record {
  first = λ none. absurd (omega (arith, none));
  whole = λ more.
      let all = g.whole count in (
        all.0 ∙ ap (whole_keys (fragments_of s t.trx)) (sym keys_are)
            ∙ sym (one_more (fragments_of s t.trx) f)
            ∙ ap (λ fs. whole_keys fs empty) (sym grown),
        all.1 ∙ ap (whole_ops (fragments_of s t.trx)) (sym ops_are)
            ∙ sym (one_more_ops (fragments_of s t.trx) f)
            ∙ ap (λ fs. whole_ops fs []) (sym grown),
      );
}
