-- What an event does to the fragments of one transaction.
use Rattle.std.proofs.Common.{◌≡◌, ℕ, Bool, true, false, cond, List, [], ◌∷◌, ◌++◌, Option, Some, None, refl, ap, sym, subst, ◌∙◌}
use Rattle.std.specs.Prelude.{unwrap_or}
use Rattle.std.specs.Ordering.{eq_by_cmp}
use Rattle.std.specs.Cmp.{eq_by_cmp_equiv}
use Rattle.finite_map.proofs.Edits.{IsKeyOrder, tied}
use Rattle.finite_map.specs.FiniteMap.{FiniteMap, get, insert, remove, retain_keys, get-insert, get-remove, get-retain_keys}
use Rattle.wsrep_base.specs.declared.ids.TrxId.{TrxId}
use Rattle.wsrep_base.specs.Trx.{trx_cmp}
use Rattle.order_event.specs.declared.event.Event.{Event}
use Rattle.order_event.specs.declared.event.Event.TheVariants.{Write, View, Report}
use Rattle.write_set.specs.declared.write_set.WriteSet.{WriteSet}
use Rattle.write_set.specs.Reading.{decoded}
use Rattle.cert_meaning.specs.declared.items.Fragment.{Fragment}
use Rattle.cert_meaning.specs.State.{FoldState, fragments_of}
use Rattle.cert_meaning.specs.declared.members.Standing.{Standing}
use Rattle.cert_meaning.specs.Verdict.{trx_of}
use Rattle.cert_meaning.specs.Fold.{Effect, Same, Closes, Adds, Commits, effect_of, affected, written, reported, is_of, changed_by, after, judged_write, fragment_by}
use Rattle.cert_meaning.proofs.TrxLemmas.{trx_total, trx_exact}
use Rattle.node_laws.proofs.Gathering.{Fewer, Gone}
use Rattle.node_laws.proofs.Gathering as fewer

-- its fragments are the same or none, or a fragment of it passes and is one more
pub data Fate (s : FoldState) (e : Event) (trx : TrxId) : Type 0 where
  Stays : Fewer s (after s e) trx → Fate s e trx
  Grows : (member : ℕ) (body : List ℕ) (w : WriteSet) → e ≡ Write member body
      → decoded body ≡ Some w → trx_of w ≡ trx
      → effect_of (judged_write s member (Some w)) ≡ Adds
      → fragments_of (after s e) trx ≡ fragments_of s trx ++ fragment_by s w ∷ [] → Fate s e trx

transactions : IsKeyOrder trx_cmp
transactions = record { total = trx_total; exact = trx_exact }

-- the fragments of a transaction among those that are open
abbrev in_open : FiniteMap trx_cmp (List Fragment) → TrxId → List Fragment
in_open opens trx = unwrap_or (get opens trx) []

-- the same fragments in another map, or none
pub data FewerIn (trx : TrxId) (before after : FiniteMap trx_cmp (List Fragment)) : Type 0 where
  SameIn : in_open after trx ≡ in_open before trx → FewerIn trx before after
  GoneIn : in_open after trx ≡ [] → FewerIn trx before after

removed_by : (opens : FiniteMap trx_cmp (List Fragment)) (t trx : TrxId) (b : Bool)
    → eq_by_cmp trx_cmp trx t ≡ b → FewerIn trx opens (remove opens t)
removed_by opens t trx true is = GoneIn
    (ap (λ o. unwrap_or o []) (get-remove trx_total opens t trx
    ∙ ap (λ b. cond b None (get opens trx)) is))
removed_by opens t trx false is = SameIn
    (ap (λ o. unwrap_or o []) (get-remove trx_total opens t trx
    ∙ ap (λ b. cond b None (get opens trx)) is))

retained_by : (opens : FiniteMap trx_cmp (List Fragment)) (keep : TrxId → Bool) (trx : TrxId)
    (b : Bool) → keep trx ≡ b → FewerIn trx opens (retain_keys opens keep)
retained_by opens keep trx true is =
    SameIn (ap (λ o. unwrap_or o []) (get-retain_keys opens keep trx
    (λ x same. ap keep (sym (trx_exact trx x same)))
    ∙ ap (λ b. cond b (get opens trx) None) is))
retained_by opens keep trx false is =
    GoneIn (ap (λ o. unwrap_or o []) (get-retain_keys opens keep trx
    (λ x same. ap keep (sym (trx_exact trx x same)))
    ∙ ap (λ b. cond b (get opens trx) None) is))

-- what became of the open transactions, for one of them: fewer, or one more fragment of it
data FateIn (s : FoldState) (member : ℕ) (w : WriteSet) (trx : TrxId) (effect : Effect)
    (after : FiniteMap trx_cmp (List Fragment)) : Type 0 where
  StaysIn : FewerIn trx s.open_trx after → FateIn s member w trx effect after
  GrowsIn : trx_of w ≡ trx → effect ≡ Adds
      → in_open after trx ≡ fragments_of s trx ++ fragment_by s w ∷ []
      → FateIn s member w trx effect after

added_by : (s : FoldState) (member : ℕ) (w : WriteSet) (trx : TrxId) (b : Bool)
    → eq_by_cmp trx_cmp trx (trx_of w) ≡ b
    → FateIn s member w trx Adds (insert s.open_trx (trx_of w)
    (fragments_of s (trx_of w) ++ fragment_by s w ∷ []))
added_by s member w trx true is =
    let same : trx_of w ≡ trx = sym (tied transactions trx (trx_of w) is) in
    GrowsIn same refl
    (ap (λ o. unwrap_or o []) (get-insert trx_total s.open_trx (trx_of w)
    (fragments_of s (trx_of w) ++ fragment_by s w ∷ []) trx
    ∙ ap (λ b. cond b (Some (fragments_of s (trx_of w) ++ fragment_by s w ∷ []))
    (get s.open_trx trx)) is)
    ∙ ap (λ t. fragments_of s t ++ fragment_by s w ∷ []) same)
added_by s member w trx false is =
    StaysIn (SameIn (ap (λ o. unwrap_or o [])
    (get-insert trx_total s.open_trx (trx_of w)
    (fragments_of s (trx_of w) ++ fragment_by s w ∷ []) trx
    ∙ ap (λ b. cond b (Some (fragments_of s (trx_of w) ++ fragment_by s w ∷ []))
    (get s.open_trx trx)) is)))

fate_affected : (s : FoldState) (member : ℕ) (w : WriteSet) (trx : TrxId) (effect : Effect)
    → FateIn s member w trx effect (affected s w effect).open_trx
fate_affected s member w trx Same = StaysIn (SameIn refl)
fate_affected s member w trx Closes =
    StaysIn (removed_by s.open_trx (trx_of w) trx (eq_by_cmp trx_cmp trx (trx_of w)) refl)
fate_affected s member w trx Adds = added_by s member w trx (eq_by_cmp trx_cmp trx (trx_of w)) refl
fate_affected s member w trx Commits =
    StaysIn (removed_by s.open_trx (trx_of w) trx (eq_by_cmp trx_cmp trx (trx_of w)) refl)

open-after : (s : FoldState) (e : Event) → (after s e).open_trx ≡ (changed_by s e).open_trx
unfolding after
open-after s e = refl

in_after : (s : FoldState) (e : Event) (trx : TrxId)
    → fragments_of (after s e) trx ≡ in_open (changed_by s e).open_trx trx
in_after s e trx = ap (λ opens. in_open opens trx) (open-after s e)

fewer_after : (s : FoldState) (e : Event) (trx : TrxId)
    → FewerIn trx s.open_trx (changed_by s e).open_trx → Fewer s (after s e) trx
fewer_after s e trx (SameIn h) = fewer.Same (in_after s e trx ∙ h)
fewer_after s e trx (GoneIn h) = Gone (in_after s e trx ∙ h)

fate_written : (s : FoldState) (member : ℕ) (body : List ℕ) (w : WriteSet) (trx : TrxId)
    → decoded body ≡ Some w
    → FateIn s member w trx (effect_of (judged_write s member (Some w)))
    (affected s w (effect_of (judged_write s member (Some w)))).open_trx
    → Fate s (Write member body) trx
fate_written s member body w trx is (StaysIn h) =
    Stays (fewer_after s (Write member body) trx
    (subst (λ o. FewerIn trx s.open_trx (written s member o).open_trx) (sym is) h))
fate_written s member body w trx is (GrowsIn of_trx adds h) =
    Grows member body w refl is of_trx adds
    (in_after s (Write member body) trx ∙ ap (λ o. in_open (written s member o).open_trx trx) is
    ∙ h)

fate_body : (s : FoldState) (member : ℕ) (body : List ℕ) (trx : TrxId) (o : Option WriteSet)
    → decoded body ≡ o → Fate s (Write member body) trx
fate_body s member body trx None is =
    Stays (fewer_after s (Write member body) trx
    (SameIn (ap (λ o. in_open (written s member o).open_trx trx) is)))
fate_body s member body trx (Some w) is =
    fate_written s member body w trx is
    (fate_affected s member w trx (effect_of (judged_write s member (Some w))))

open_chosen : (b : Bool) (s t : FoldState) → s.open_trx ≡ t.open_trx
    → (cond b s t).open_trx ≡ t.open_trx
open_chosen true s t same = same
open_chosen false s t same = refl

open_reported : (s : FoldState) (member number : ℕ) (o : Option Standing)
    → (reported s member number o).open_trx ≡ s.open_trx
open_reported s member number None = refl
open_reported s member number (Some standing) = open_chosen _ _ s refl

-- what an event does to the fragments of a transaction
pub fate : (s : FoldState) (e : Event) (trx : TrxId) → Fate s e trx
fate s (Write member body) trx = fate_body s member body trx (decoded body) refl
fate s (View version members) trx =
    Stays (fewer_after s (View version members) trx
    (retained_by s.open_trx (is_of members) trx (is_of members trx) refl))
fate s (Report member number) trx =
    Stays (fewer_after s (Report member number) trx
    (SameIn (ap (λ opens. in_open opens trx)
    (open_reported s member number (get s.members member)))))

-- a fragment that passes is one more of its transaction
pub grown : (s : FoldState) (member : ℕ) (body : List ℕ) (w : WriteSet) → decoded body ≡ Some w
    → effect_of (judged_write s member (Some w)) ≡ Adds
    → fragments_of (after s (Write member body)) (trx_of w)
    ≡ fragments_of s (trx_of w) ++ fragment_by s w ∷ []
grown s member body w read adds =
    in_after s (Write member body) (trx_of w)
    ∙ ap (λ o. in_open (written s member o).open_trx (trx_of w)) read
    ∙ ap (λ effect. in_open (affected s w effect).open_trx (trx_of w)) adds
    ∙ ap (λ o. unwrap_or o []) (get-insert trx_total s.open_trx (trx_of w)
    (fragments_of s (trx_of w) ++ fragment_by s w ∷ []) (trx_of w)
    ∙ ap (λ b. cond b (Some (fragments_of s (trx_of w) ++ fragment_by s w ∷ []))
    (get s.open_trx (trx_of w))) ((eq_by_cmp_equiv trx_total).refl (trx_of w)))
