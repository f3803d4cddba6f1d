-- What is pending stays in line when its node leaves: the queue goes, and only such transactions
-- are live whose commit is taken.
use Rattle.std.proofs.Common.{◌≡◌, ℕ, ◌<◌, Bool, true, false, cond, List, [], ◌∷◌, ◌++◌, map, Option, None, Some, refl, ap, sym, subst, ◌∙◌, arith, append-nil, true≢false}
use Rattle.std.specs.Prelude.{◌==◌, ◌&&◌, ◌||◌, drop, take}
use Rattle.std.specs.List.{AllByRecursion, filter_map, list_any}
use Rattle.std.specs.Option.{option_map_or}
use Rattle.std.proofs.lemmas.Bool.{or_parts}
use Rattle.std.proofs.lemmas.List.{map-append}
use Rattle.std.proofs.lemmas.List.Elements.{filter-append}
use Rattle.order_event.specs.declared.event.Event.{Event}
use Rattle.order_event.specs.declared.event.Message.{Message}
use Rattle.order_event.specs.declared.event.Message.TheVariants as message
use Rattle.write_set.specs.declared.write_set.WriteSet.{WriteSet}
use Rattle.write_set.specs.Reading.{decoded}
use Rattle.cert_meaning.specs.Verdict.{is_end}
use Rattle.cert_meaning.specs.Fold.{state_at}
use Rattle.client_trx.specs.Live.{Live}
use Rattle.client_trx.specs.declared.status.Status.{Status}
use Rattle.client_trx.specs.declared.status.Status.TheVariants as status
use Rattle.node_meaning.specs.Node.{ModelNode}
use Rattle.node_meaning.specs.Leaving.{is_commit_of, waits_in, where_untaken, told_at_leave, departed}
use Rattle.node_meaning.specs.Facts.{own_body, sent_body, pending, sets_of, SerialsRise, IsOurs, IsCommitOf, HasFailed, Alone, One, Lost, StandsBy, Lined, Spelled}
use Rattle.node_laws.proofs.Moves.{MayLeave}

-- ---- a list in two parts
pub data Parts (xs ys : List (Option WriteSet)) (sets : List WriteSet) : Type 0 where
  Both : (a b : List WriteSet) → sets ≡ a ++ b → xs ≡ map Some a → ys ≡ map Some b
      → Parts xs ys sets

one_more : (x : Option WriteSet) (xs ys : List (Option WriteSet)) (v : WriteSet)
    (sets : List WriteSet) → x ≡ Some v → Parts xs ys sets → Parts (x ∷ xs) ys (v ∷ sets)
one_more x xs ys v sets is (Both a b same one other) =
    Both (v ∷ a) b (ap (λ s. v ∷ s) same) (λ i. is i ∷ one i) other

pub parts : (xs ys : List (Option WriteSet)) (sets : List WriteSet) → xs ++ ys ≡ map Some sets
    → Parts xs ys sets
parts [] ys sets is = Both [] sets refl refl is
parts (x ∷ xs) ys [] is = cc
parts (x ∷ xs) ys (v ∷ sets) is =
    let head : x ≡ Some v = cc in
    let tail : xs ++ ys ≡ map Some sets = cc in
    one_more x xs ys v sets head (parts xs ys sets tail)

-- ---- what holds of both parts holds of the first
pub all_front : {X : Type 0} (P : X → Type 0) (a b : List X) → AllByRecursion P (a ++ b)
    → AllByRecursion P a
all_front P [] b all = tt
all_front P (x ∷ a) b all = (all.0, all_front P a b all.1)

serials_less : (low : ℕ) (sets : List WriteSet) (next : ℕ) → SerialsRise low sets next → low < next
serials_less low [] next rise = rise
serials_less low (v ∷ sets) next rise =
    omega (arith, serials_less v.serial sets next rise.1, rise.0)

pub serials_front : (low : ℕ) (a b : List WriteSet) (next : ℕ) → SerialsRise low (a ++ b) next
    → SerialsRise low a next
serials_front low [] b next rise = serials_less low b next rise
serials_front low (v ∷ a) b next rise = (rise.0, serials_front v.serial a b next rise.1)

pub front_none : {X : Type 0} (a b : List X) → a ++ b ≡ [] → a ≡ []
front_none [] b is = refl
front_none (x ∷ a) b is = cc

-- ---- the commits that are queued
and_false : (a b : Bool) → a && b ≡ false → b ≡ true → a ≡ false
and_false true b h holds = absurd (true≢false (sym holds ∙ h))
and_false false b h holds = refl

-- where no commit of a transaction is queued, none is among the write sets
abbrev pub NoneEnds : ℕ → List WriteSet → Type 0
NoneEnds begin sets =
    AllByRecursion (λ (v : WriteSet). is_end v ≡ true → v.begin == begin ≡ false) sets

pub none_queued : (begin : ℕ) (ms : List Message) (sets : List WriteSet)
    → map decoded (filter_map sent_body ms) ≡ map Some sets
    → list_any (is_commit_of begin) ms ≡ false → NoneEnds begin sets
none_queued begin [] [] are none = tt
none_queued begin [] (v ∷ sets) are none = cc
none_queued begin (message.Report number ∷ ms) sets are none = none_queued begin ms sets are none
none_queued begin (message.Write body ∷ ms) [] are none = cc
none_queued begin (message.Write body ∷ ms) (v ∷ sets) are none =
    let head : decoded body ≡ Some v = cc in
    let tail : map decoded (filter_map sent_body ms) ≡ map Some sets = cc in
    let both = or_parts (is_commit_of begin (message.Write body)) (list_any (is_commit_of begin) ms)
    none in
    let here : v.begin == begin && is_end v ≡ false =
    ap (λ o. option_map_or (λ (w : WriteSet). w.begin == begin && is_end w) o false) (sym head)
    ∙ both.0 in (
      λ ends. and_false (v.begin == begin) (is_end v) here ends,
      none_queued begin ms sets tail both.1,
    )

commit_ends : (w : WriteSet) (first : Bool) → w.flags ≡ cond first 3 2 → is_end w ≡ true
commit_ends w true flags = ap (λ f. f == 2 || f == 3) flags
commit_ends w false flags = ap (λ f. f == 2 || f == 3) flags

front_by : (begin : ℕ) (w v : WriteSet) (sets : List WriteSet) (own : Bool) → v.begin == begin ≡ own
    → cond own (v ∷ sets_of begin sets) (sets_of begin sets) ≡ w ∷ [] → is_end w ≡ true
    → (is_end v ≡ true → v.begin == begin ≡ false)
    → (sets_of begin sets ≡ w ∷ [] → [] ≡ w ∷ []) → [] ≡ w ∷ []
front_by begin w v sets true is found ends none later =
    let head : v ≡ w = cc in absurd (true≢false (sym is ∙ none (ap is_end head ∙ ends)))
front_by begin w v sets false is found ends none later = later found

-- the one commit of two parts is in the first one, where none is in the second
pub one_front : (begin : ℕ) (w : WriteSet) (xs sets : List WriteSet)
    → xs ++ sets_of begin sets ≡ w ∷ [] → is_end w ≡ true → NoneEnds begin sets → xs ≡ w ∷ []
one_front begin w [] [] same ends none = cc
one_front begin w [] (v ∷ sets) same ends none =
    front_by begin w v sets (v.begin == begin) refl same ends none.0
    (λ found. one_front begin w [] sets found ends none.1)
one_front begin w (x ∷ []) sets same ends none = let head : x ≡ w = cc in ap (λ y. y ∷ []) head
one_front begin w (x ∷ y ∷ xs) sets same ends none = cc

pub untaken_not : (untaken : Bool) → where_untaken untaken ≡ None → untaken ≡ false
untaken_not true none = cc
untaken_not false none = refl

-- ---- the node
module _ (order : List Event) (n : ModelNode)
    (h : Spelled order n.at.member n.at.begin n.at.serial n.at.committed n.at.certified n.live
    (pending order n))
    (may : MayLeave n) where
  abbrev p : ℕ
  p = n.at.committed

  abbrev c : ℕ
  c = n.at.certified

  abbrev queue : List Message
  queue = n.ordered ++ n.outbox

  abbrev inbox : List (List ℕ)
  inbox = filter_map (own_body n.at.member) (drop c (take n.at.taken order))

  module _ (a b : List WriteSet) (same : h.sets ≡ a ++ b)
      (rear : map decoded (filter_map sent_body queue) ≡ map Some b) where
    mine_are : (k : ℕ) → sets_of k h.sets ≡ sets_of k a ++ sets_of k b
    mine_are k = ap (sets_of k) same ∙ filter-append (λ (v : WriteSet). v.begin == k) a b

    commit_stays : (t : Live) → waits_in queue t ≡ false
        → Alone (IsCommitOf (state_at order c) t) (HasFailed order c t.trx)
        (sets_of t.trx.begin h.sets)
        → Alone (IsCommitOf (state_at order c) t) (HasFailed order c t.trx) (sets_of t.trx.begin a)
    commit_stays t none (One w alone is) =
        One w (one_front t.trx.begin w (sets_of t.trx.begin a) b
        (sym (mine_are t.trx.begin) ∙ alone) (commit_ends w (w.fragment == 0) is.flags)
        (none_queued t.trx.begin queue b rear none)) is
    commit_stays t none (Lost alone lost) =
        Lost (front_none (sets_of t.trx.begin a) (sets_of t.trx.begin b)
        (sym (mine_are t.trx.begin) ∙ alone)) lost

    none_left : (t : Live) → sets_of t.trx.begin h.sets ≡ [] → sets_of t.trx.begin a ≡ []
    none_left t none = front_none (sets_of t.trx.begin a) (sets_of t.trx.begin b)
        (sym (mine_are t.trx.begin) ∙ none)

    stands_left : (t : Live) (st : Status) → told_at_leave (waits_in queue t) st ≡ None
        → StandsBy order p c (sets_of t.trx.begin h.sets) t st
        → StandsBy order p c (sets_of t.trx.begin a) t st
    stands_left t status.Running stay was = cc
    stands_left t status.FragmentSent stay was = cc
    stands_left t status.CommitSent stay was =
        commit_stays t (untaken_not (waits_in queue t) stay) was
    stands_left t (status.Certified number) stay was = (none_left t was.0, was.1)
    stands_left t status.KilledSent stay was =
        commit_stays t (untaken_not (waits_in queue t) stay) was
    stands_left t (status.Replaying number) stay was = (none_left t was.0, was.1)

    lined_left : Lined order n.at.member n.at.begin n.at.serial p c n.live a
    lined_left =
        let l = h.lined in record {
          ours = all_front (IsOurs n.at.member n.at.begin p) a b
              (subst (AllByRecursion (IsOurs n.at.member n.at.begin p)) same l.ours);
          serials = serials_front 0 a b n.at.serial
              (subst (λ ws. SerialsRise 0 ws n.at.serial) same l.serials);
          each = λ s t is.
              let was = l.each s t is in record {
                of_member = was.of_member;
                begun = was.begun;
                stands = stands_left t t.status (may.stay s t is) was.stands;
              };
          begins = l.begins;
        }

  left_parts : Parts (map decoded inbox) (map decoded (filter_map sent_body queue)) h.sets
      → Spelled order n.at.member n.at.begin n.at.serial p c n.live (pending order (departed n))
  left_parts (Both a b same front rear) = record {
    sets = a;
    are = ap (map decoded) (append-nil inbox) ∙ front;
    lined = lined_left a b same rear;
  }

  pub spelled_left : Spelled order n.at.member n.at.begin n.at.serial p c n.live
      (pending order (departed n))
  spelled_left =
      left_parts (parts (map decoded inbox) (map decoded (filter_map sent_body queue)) h.sets
      (sym (map-append decoded inbox (filter_map sent_body queue)) ∙ h.are))
