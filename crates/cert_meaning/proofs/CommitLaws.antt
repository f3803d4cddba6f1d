-- The passed commits of the fold: their numbers, and what each event adds to them.
use Rattle.std.proofs.Common.{◌≡◌, ℕ, zero, suc, ◌+◌, ◌≤◌, ◌<◌, Bool, true, false, List, [], ◌∷◌, ◌++◌, length, Option, None, Some, refl, ap, sym, subst, ◌∙◌, arith, add-one, append-nil, append_assoc, eq-eqb, eqb→eq}
use Rattle.std.specs.Prelude.{◌==◌, ◌-◌, slice_get, cond, is_some, T}
use Rattle.order_event.specs.declared.event.Event.{Event}
use Rattle.order_event.specs.declared.event.Event.TheVariants.{Write, View, Report}
use Rattle.write_set.specs.declared.write_set.WriteSet.{WriteSet}
use Rattle.write_set.specs.Reading.{decoded}
use Rattle.finite_map.specs.FiniteMap.{get}
use Rattle.wsrep_base.specs.declared.verdict.Verdict.{Verdict}
use Rattle.wsrep_base.specs.declared.verdict.Verdict.TheVariants.{Pass, Malformed, Stranger, Repeat, Future, Stale, Broken, Conflict, Held}
use Rattle.wsrep_base.specs.declared.verdict.Judged.{Judged}
use Rattle.wsrep_base.specs.declared.verdict.Judged.TheVariants as became
use Rattle.cert_meaning.specs.declared.items.CommitItem.{CommitItem}
use Rattle.cert_meaning.specs.State.{FoldState, Standing, no_events, RiseWithin, commit_numbered}
use Rattle.cert_meaning.specs.Fold.{Effect, Same, Closes, Adds, Commits, effect_of, effect_of_failure, affected, written, reported, after, after_next, state_at, judged, judged_write, commit_made, commit_written, commit_of}
use Rattle.cert_meaning.proofs.FoldLaws.{state_at-next, some_there, number-at}

number_or : ℕ → Option CommitItem → ℕ
number_or n None = n
number_or n (Some commit) = commit.number

different : (b : Bool) → (b ≡ true → ⊥) → b ≡ false
different true no_truth = absurd (no_truth refl)
different false no_truth = refl

plus_none : (m : ℕ) → m + 0 ≡ m
plus_none m = omega arith

-- the commit, or none, as a list
abbrev pub as_list : Option CommitItem → List CommitItem
as_list None = []
as_list (Some commit) = commit ∷ []

commits_affected : (s : FoldState) (w : WriteSet) (effect : Effect) → (affected s w effect).commits ≡ s.commits ++ as_list (commit_made s w effect)
commits_affected s w Same = sym (append-nil s.commits)
commits_affected s w Closes = sym (append-nil s.commits)
commits_affected s w Adds = sym (append-nil s.commits)
commits_affected s w Commits = refl

commits_written : (s : FoldState) (member : ℕ) (w : Option WriteSet)
    → (written s member w).commits ≡ s.commits ++ as_list (commit_written s member w)
commits_written s member None = sym (append-nil s.commits)
commits_written s member (Some w) = commits_affected s w (effect_of (judged_write s member (Some w)))

commits_chosen : (b : Bool) (s t : FoldState) → s.commits ≡ t.commits → (cond b s t).commits ≡ t.commits
commits_chosen true s t same = same
commits_chosen false s t same = refl

commits_reported : (s : FoldState) (member number : ℕ) (standing : Option Standing) → (reported s member number standing).commits ≡ s.commits
commits_reported s member number None = refl
commits_reported s member number (Some standing) = commits_chosen _ _ s refl

-- the commits after an event are those before it, and the one that it makes
pub commits-after : (s : FoldState) (event : Event) → (after s event).commits ≡ s.commits ++ as_list (commit_of s event)
unfolding after commit_of
commits-after s (Write member body) = commits_written s member (decoded body)
commits-after s (View version members) = sym (append-nil s.commits)
commits-after s (Report member number) = commits_reported s member number (get s.members member) ∙ sym (append-nil s.commits)

-- the commits after one more event of an order
pub commits-next : (order : List Event) (n : ℕ) (event : Event) → slice_get order n ≡ Some event
    → (state_at order (n + 1)).commits ≡ (state_at order n).commits ++ as_list (commit_of (state_at order n) event)
commits-next order n event there =
    ap (λ (s : FoldState). s.commits) (state_at-next order n event there) ∙ commits-after (state_at order n) event

-- whether an event commits its transaction, by what became of it
abbrev pub is_commit : Judged → Bool
is_commit became.View = false
is_commit became.Report = false
is_commit became.Commit = true
is_commit became.Fragment = false
is_commit became.Rollback = false
is_commit (became.Fail failure) = false

none_made : (s : FoldState) (w : WriteSet) (failure : Verdict) → commit_made s w (effect_of_failure failure) ≡ None
none_made s w Pass = refl
none_made s w Malformed = refl
none_made s w Stranger = refl
none_made s w Repeat = refl
none_made s w Future = refl
none_made s w Stale = refl
none_made s w Broken = refl
none_made s w (Conflict commit) = refl
none_made s w (Held fragment) = refl

is_made : (s : FoldState) (w : WriteSet) (judged : Judged) → is_some (commit_made s w (effect_of judged)) ≡ is_commit judged
is_made s w became.View = refl
is_made s w became.Report = refl
is_made s w became.Commit = refl
is_made s w became.Fragment = refl
is_made s w became.Rollback = refl
is_made s w (became.Fail failure) = ap is_some (none_made s w failure)

is_written : (s : FoldState) (member : ℕ) (w : Option WriteSet)
    → is_some (commit_written s member w) ≡ is_commit (judged_write s member w)
is_written s member None = refl
is_written s member (Some w) = is_made s w (judged_write s member (Some w))

-- an event makes a commit exactly where it is judged one
pub commit-judged : (s : FoldState) (event : Event) → is_some (commit_of s event) ≡ is_commit (judged s event)
unfolding commit_of judged
commit-judged s (Write member body) = is_written s member (decoded body)
commit-judged s (View version members) = refl
commit-judged s (Report member number) = refl

number_made : (s : FoldState) (w : WriteSet) (effect : Effect) (commit : CommitItem) → commit_made s w effect ≡ Some commit
    → commit.number ≡ s.number + 1
unfolding number_or
number_made s w Same commit is = cc
number_made s w Closes commit is = cc
number_made s w Adds commit is = cc
number_made s w Commits commit is =
    ap (λ (c : Option CommitItem). number_or (s.number + 1) c) (sym is)

number_written : (s : FoldState) (member : ℕ) (w : Option WriteSet) (commit : CommitItem) → commit_written s member w ≡ Some commit
    → commit.number ≡ s.number + 1
number_written s member None commit is = cc
number_written s member (Some w) commit is = number_made s w (effect_of (judged_write s member (Some w))) commit is

-- a commit has the number of its event
pub commit-number : (s : FoldState) (event : Event) (commit : CommitItem) → commit_of s event ≡ Some commit
    → commit.number ≡ s.number + 1
unfolding commit_of
commit-number s (Write member body) commit is = number_written s member (decoded body) commit is
commit-number s (View version members) commit is = cc
commit-number s (Report member number) commit is = cc

pub rise-more : (above most more : ℕ) (commits : List CommitItem) → most ≤ more → RiseWithin above most commits
    → RiseWithin above more commits
rise-more above most more [] fits rise = tt
rise-more above most more (c ∷ cs) fits rise =
    (rise.0, omega (arith, fits, rise.1), rise-more c.number most more cs fits rise.2)

-- a commit with a greater number comes behind
pub rise-append : (above most : ℕ) (commits : List CommitItem) (commit : CommitItem) → above ≤ most → most < commit.number
    → RiseWithin above most commits → RiseWithin above commit.number (commits ++ commit ∷ [])
rise-append above most [] commit fits next rise = (omega arith, omega arith, tt)
rise-append above most (c ∷ cs) commit fits next rise =
    (rise.0, omega (arith, next, rise.1), rise-append c.number most cs commit rise.1 next rise.2)

rise_list : (above most : ℕ) (commits : List CommitItem) (made : Option CommitItem) → above ≤ most
    → ((commit : CommitItem) → made ≡ Some commit → commit.number ≡ most + 1)
    → RiseWithin above most commits → RiseWithin above (most + 1) (commits ++ as_list made)
rise_list above most commits None fits number rise =
    subst (RiseWithin above (most + 1)) (sym (append-nil commits)) (rise-more above most (most + 1) commits (omega arith) rise)
rise_list above most commits (Some commit) fits number rise =
    let is : commit.number ≡ most + 1 = number commit refl in
    subst (λ n. RiseWithin above n (commits ++ commit ∷ [])) is (rise-append above most commits commit fits (omega arith) rise)

-- each event keeps the numbers rising
pub rise-after : (above : ℕ) (s : FoldState) (event : Event) → above ≤ s.number → RiseWithin above s.number s.commits
    → RiseWithin above (s.number + 1) (after s event).commits
rise-after above s event fits rise =
    subst (RiseWithin above (s.number + 1)) (sym (commits-after s event))
    (rise_list above s.number s.commits (commit_of s event) fits (λ commit is. commit-number s event commit is) rise)

-- the numbers of the commits strictly rise, from 1 to n at most
pub commits-rise : (order : List Event) (n : ℕ) → n ≤ length order → RiseWithin 0 n (state_at order n).commits
unfolding state_at no_events
commits-rise order zero fits = tt
commits-rise order (suc n) fits =
    let there = some_there order n fits in
    let is : (state_at order n).number ≡ n = number-at order n (omega arith) in
    let rise = subst (λ m. RiseWithin 0 m (state_at order n).commits) (sym is) (commits-rise order n (omega arith)) in
    let grown = rise-after 0 (state_at order n) there.0 (omega arith) rise in
    subst (λ e. RiseWithin 0 (suc n) (after_next (state_at order n) e).commits) (sym there.1)
    (subst (λ m. RiseWithin 0 m (after (state_at order n) there.0).commits) (ap (λ m. m + 1) is ∙ add-one n) grown)

-- commits that come behind others, with greater numbers
pub record Kept (before after : List CommitItem) (above most : ℕ) : Type 0 where
  pub later : List CommitItem
  pub is : after ≡ before ++ later
  pub rise : RiseWithin above most later

-- commits stay, and later ones come behind them
pub commits_kept : (order : List Event) (m k : ℕ) → m + k ≤ length order
    → Kept (state_at order m).commits (state_at order (m + k)).commits m (m + k)
commits_kept order m zero fits = record {
  later = [];
  is = ap (λ n. (state_at order n).commits) (plus_none m) ∙ sym (append-nil (state_at order m).commits);
  rise = tt;
}
commits_kept order m (suc k) fits =
    let same : m + suc k ≡ (m + k) + 1 = omega arith in
    let inside : suc (m + k) ≤ length order = omega arith in
    let there = some_there order (m + k) inside in
    let kept = commits_kept order m k (omega arith) in
    let s = state_at order (m + k) in
    let number : s.number ≡ m + k = number-at order (m + k) (omega arith) in
    record {
      later = kept.later ++ as_list (commit_of s there.0);
      is = ap (λ n. (state_at order n).commits) same
          ∙ commits-next order (m + k) there.0 there.1
          ∙ ap (λ cs. cs ++ as_list (commit_of s there.0)) kept.is
          ∙ append_assoc (state_at order m).commits kept.later (as_list (commit_of s there.0));
      rise = subst (λ n. RiseWithin m n (kept.later ++ as_list (commit_of s there.0))) (sym same)
          (rise_list m (m + k) kept.later (commit_of s there.0) (omega arith)
          (λ commit is. commit-number s there.0 commit is ∙ ap (λ n. n + 1) number) kept.rise);
    }

other : (m n : ℕ) → m < n → m == n ≡ false
other m n below = different (m == n) (λ same. omega (arith, eqb→eq m n (subst T (sym same) tt)))

-- none of the commits up to a number has a greater one
pub numbered_behind : (above most n : ℕ) (commits later : List CommitItem) → most < n → RiseWithin above most commits
    → commit_numbered n (commits ++ later) ≡ commit_numbered n later
numbered_behind above most n [] later fits rise = refl
numbered_behind above most n (c ∷ cs) later fits rise =
    ap (λ b. cond b (Some c) (commit_numbered n (cs ++ later))) (other c.number n (omega (arith, fits, rise.1)))
    ∙ numbered_behind c.number most n cs later fits rise.2

pub numbered_above : (above most n : ℕ) (commits : List CommitItem) → n ≤ above → RiseWithin above most commits
    → commit_numbered n commits ≡ None
numbered_above above most n [] fits rise = refl
numbered_above above most n (c ∷ cs) fits rise =
    ap (λ b. cond b (Some c) (commit_numbered n cs)) (different (c.number == n) (λ same. omega (arith, fits, rise.0, eqb→eq c.number n (subst T (sym same) tt))))
    ∙ numbered_above c.number most n cs (omega (arith, fits, rise.0)) rise.2

numbered_made : (n most : ℕ) (made : Option CommitItem) (later : List CommitItem)
    → ((commit : CommitItem) → made ≡ Some commit → commit.number ≡ n) → RiseWithin n most later
    → commit_numbered n (as_list made ++ later) ≡ made
numbered_made n most None later number rise = numbered_above n most n later (omega arith) rise
numbered_made n most (Some commit) later number rise =
    ap (λ b. cond b (Some commit) (commit_numbered n later)) (eq-eqb commit.number n (number commit refl))

-- the commit numbered k + 1 is the one that event k + 1 of the order makes
pub numbered-made : (order : List Event) (k more : ℕ) (event : Event) → (k + 1) + more ≤ length order → slice_get order k ≡ Some event
    → commit_numbered (k + 1) (state_at order ((k + 1) + more)).commits ≡ commit_of (state_at order k) event
numbered-made order k more event fits there =
    let s = state_at order k in
    let number : s.number ≡ k = number-at order k (omega arith) in
    let kept = commits_kept order (k + 1) more fits in
    ap (commit_numbered (k + 1)) (kept.is ∙ ap (λ cs. cs ++ kept.later) (commits-next order k event there)
    ∙ append_assoc s.commits (as_list (commit_of s event)) kept.later)
    ∙ numbered_behind 0 k (k + 1) s.commits (as_list (commit_of s event) ++ kept.later) (omega arith) (commits-rise order k (omega arith))
    ∙ numbered_made (k + 1) ((k + 1) + more) (commit_of s event) kept.later
    (λ commit is. commit-number s event commit is ∙ ap (λ n. n + 1) number) kept.rise

-- the commit numbered k + 1 is the one that event k + 1 of the order makes, over each later state
pub numbered-at : (order : List Event) (k n : ℕ) (event : Event) → k < n → n ≤ length order → slice_get order k ≡ Some event
    → commit_numbered (k + 1) (state_at order n).commits ≡ commit_of (state_at order k) event
numbered-at order k n event below fits there =
    let same : (k + 1) + (n - (k + 1)) ≡ n = omega arith in
    let inside : (k + 1) + (n - (k + 1)) ≤ length order = omega arith in
    ap (λ m. commit_numbered (k + 1) (state_at order m).commits) (sym same) ∙ numbered-made order k (n - (k + 1)) event inside there

-- no commit has a number above that of the state
pub none-numbered : (order : List Event) (n k : ℕ) → n ≤ length order → n < k → commit_numbered k (state_at order n).commits ≡ None
none-numbered order n k fits above =
    ap (commit_numbered k) (sym (append-nil (state_at order n).commits))
    ∙ numbered_behind 0 n k (state_at order n).commits [] above (commits-rise order n fits)
