-- Where the bytes of messages are those of write sets, they name the commits that these are.
use Rattle.std.proofs.Common.{◌≡◌, ℕ, ◌+◌, ◌<◌, ◌≤◌, Bool, true, false, cond, List, [], ◌∷◌, length, get_or, drop, Some, None, refl, sym, ap, ◌∙◌}
use Rattle.std.specs.Prelude.{◌==◌, ◌&&◌, ◌||◌}
use Rattle.std.specs.Option.{option_map_or}
use Rattle.std.specs.List.{list_any, AllByRecursion}
use Rattle.std.proofs.lemmas.List.{drop_more, drop_all, take-append-drop}
use Rattle.order_event.specs.declared.event.Message.{Message}
use Rattle.order_event.specs.declared.event.Message.TheVariants as message
use Rattle.write_set.specs.declared.write_set.WriteSet.{WriteSet}
use Rattle.write_set.proofs.WholeLaws.{begin_is}
use Rattle.node_meaning.specs.Leaving.{is_commit_of}
use Rattle.node_parts.specs.Queue.{Queued, messages_of, IsOfSet, AreOfSets, names_commit}
use Rattle.node_parts.proofs.QueueLaws.{queue_of}

-- ---- one message
by_flags : (ends : Bool) (named begin : ℕ)
    → option_map_or (λ n. n == begin) (cond ends (Some named) None) false ≡ ((named == begin) && ends)
by_flags true named begin = by (named == begin)
  where
    by : (b : Bool) → b ≡ (b && true)
    by true = refl
    by false = refl
by_flags false named begin = by (named == begin)
  where
    by : (b : Bool) → false ≡ (b && false)
    by true = refl
    by false = refl

named_so : (begin : ℕ) (m : Message) → IsOfSet m → names_commit begin m ≡ is_commit_of begin m
named_so begin (message.Write body) of =
    ap (λ o. option_map_or (λ n. n == begin) o false) (begin_is body of.0 of.1)
    ∙ by_flags (of.0.flags == 2 || of.0.flags == 3) of.0.begin begin
    ∙ ap (λ o. option_map_or (λ (w : WriteSet). w.begin == begin && (w.flags == 2 || w.flags == 3)) o false) (sym of.1)
named_so begin (message.Report number) of = refl

-- ---- all of them
all_named : (begin : ℕ) (ms : List Message) → AllByRecursion IsOfSet ms
    → list_any (names_commit begin) ms ≡ list_any (is_commit_of begin) ms
all_named begin [] of = refl
all_named begin (m ∷ ms) of = λ i. named_so begin m of.0 i || all_named begin ms of.1 i

-- the messages of a queue are those that it keeps in one list
pub commits_in : (messages : List Message) (n begin : ℕ) (q : Queued) → queue_of messages n ≡ q → AreOfSets q
    → list_any (names_commit begin) messages ≡ list_any (is_commit_of begin) (messages_of q)
commits_in messages n begin q is of =
    ap (list_any (names_commit begin)) (sym (take-append-drop n messages) ∙ ap messages_of is)
    ∙ all_named begin (messages_of q) of

-- ---- one after another
module _ (test : Message → Bool) where
  pub any_here : (l : List Message) (i : ℕ) (m : Message) → i < length l → m ≡ get_or l i m → test m ≡ true
      → list_any test (drop i l) ≡ true
  any_here l i m within is passes =
      ap (list_any test) (drop_more l i m within ∙ ap (λ n. n ∷ drop (i + 1) l) (sym is))
      ∙ ap (λ b. b || list_any test (drop (i + 1) l)) passes

  pub any_later : (l : List Message) (i : ℕ) (m : Message) → i < length l → m ≡ get_or l i m → test m ≡ false
      → list_any test (drop i l) ≡ list_any test (drop (i + 1) l)
  any_later l i m within is fails =
      ap (list_any test) (drop_more l i m within ∙ ap (λ n. n ∷ drop (i + 1) l) (sym is))
      ∙ ap (λ b. b || list_any test (drop (i + 1) l)) fails

  pub any_past : (l : List Message) (i : ℕ) → length l ≤ i → list_any test (drop i l) ≡ false
  any_past l i past = ap (list_any test) (drop_all i l past)
