-- The greatest commit that touches: found above a number, and among what is kept.
use Rattle.std.proofs.Common.{◌≡◌, ℕ, ◌≤◌, ◌<◌, Bool, true, false, cond, ◌&&◌, List, [], ◌∷◌, ◌++◌, Option, None, Some, refl, ap, sym, ◌∙◌, arith, append-nil, lt-ltb, le-ltb, ltb-true, ltb-false}
use Rattle.std.specs.Prelude.{max, map, nat_lt, unwrap_or}
use Rattle.std.specs.List.{filter}
use Rattle.std.proofs.lemmas.List.Elements.{filter-append}
use Rattle.wsrep_base.specs.Trx.{greatest}
use Rattle.key_sets.specs.Keys.{Keys, touches}
use Rattle.cert_meaning.specs.declared.items.CommitItem.{CommitItem}
use Rattle.cert_meaning.specs.State.{RiseWithin}
use Rattle.cert_meaning.specs.Search.{is_related, greatest_related}
use Rattle.cert_meaning.proofs.CommitLaws.{as_list}
use Rattle.cert_index.specs.Index.{only_above}
use Rattle.node_meaning.specs.Steps.{touching_before}
use Rattle.certification.specs.Certifies.{commits_above}
use Rattle.certification.proofs.Needed.{above_both}

-- ---- lists
-- two tests may be made in either order
module _ {X : Type 0} (p q : X → Bool) where
  swap_one : (x : X) (ps qs : List X) (b c : Bool) → p x ≡ b → q x ≡ c → filter p qs ≡ filter q ps
      → filter p (cond c (x ∷ qs) qs) ≡ filter q (cond b (x ∷ ps) ps)
  swap_one x ps qs true true is_p is_q rest =
      ap (λ b. cond b (x ∷ filter p qs) (filter p qs)) is_p ∙ ap (λ ys. x ∷ ys) rest
      ∙ sym (ap (λ c. cond c (x ∷ filter q ps) (filter q ps)) is_q)
  swap_one x ps qs true false is_p is_q rest = rest ∙ sym (ap (λ c. cond c (x ∷ filter q ps) (filter q ps)) is_q)
  swap_one x ps qs false true is_p is_q rest = ap (λ b. cond b (x ∷ filter p qs) (filter p qs)) is_p ∙ rest
  swap_one x ps qs false false is_p is_q rest = rest

  filter_swap : (xs : List X) → filter p (filter q xs) ≡ filter q (filter p xs)
  filter_swap [] = refl
  filter_swap (x ∷ xs) = swap_one x (filter p xs) (filter q xs) (p x) (q x) refl refl (filter_swap xs)

-- ---- some of rising commits rise
rise_lower : (least less most : ℕ) (commits : List CommitItem) → less ≤ least → RiseWithin least most commits → RiseWithin less most commits
rise_lower least less most [] fits rise = tt
rise_lower least less most (c ∷ cs) fits rise = (omega (arith, fits, rise.0), rise.1, rise.2)

rise_one : (least most : ℕ) (c : CommitItem) (cs : List CommitItem) (b : Bool) → least < c.number → c.number ≤ most
    → RiseWithin c.number most cs → RiseWithin least most (cond b (c ∷ cs) cs)
rise_one least most c cs true more fits rise = (more, fits, rise)
rise_one least most c cs false more fits rise = rise_lower c.number least most cs (omega (arith, more)) rise

rise_above : (to least most : ℕ) (commits : List CommitItem) → RiseWithin least most commits → RiseWithin least most (commits_above to commits)
rise_above to least most [] rise = tt
rise_above to least most (c ∷ cs) rise =
    rise_one least most c (commits_above to cs) (nat_lt to c.number) rise.0 rise.1 (rise_above to c.number most cs rise.2)

-- ---- the greatest of those above a number is the greatest of all, where that is above
module _ (to : ℕ) where
  one_more : (n m : ℕ) (b d : Bool) → nat_lt to n ≡ b → nat_lt to m ≡ d
      → only_above to (Some (max n m)) ≡ cond b (Some (max n (unwrap_or (cond d (Some m) None) n))) (cond d (Some m) None)
  one_more n m true d is_n is_m =
      let less = ltb-true to n is_n in
      ap (λ b. cond b (Some (max n m)) None) (lt-ltb to (max n m) (let up : to < max n m = omega (arith, less) in up)) ∙ ap Some (by d is_m)
    where
      by : (d : Bool) → nat_lt to m ≡ d → max n m ≡ max n (unwrap_or (cond d (Some m) None) n)
      by true is = refl
      by false is =
          let less = ltb-true to n is_n in let low = ltb-false to m is in
          let same : max n m ≡ max n n = omega (arith, less, low) in same
  one_more n m false true is_n is_m =
      let low = ltb-false to n is_n in
      let less = ltb-true to m is_m in
      ap (λ k. cond (nat_lt to k) (Some k) None) (let same : max n m ≡ m = omega (arith, low, less) in same)
      ∙ ap (λ b. cond b (Some m) None) is_m
  one_more n m false false is_n is_m =
      let low = ltb-false to n is_n in
      let down = ltb-false to m is_m in
      ap (λ b. cond b (Some (max n m)) None) (le-ltb to (max n m) (let most : max n m ≤ to = omega (arith, low, down) in most))

  one_above : (n : ℕ) (o : Option ℕ)
      → only_above to (Some (max n (unwrap_or o n))) ≡ cond (nat_lt to n) (Some (max n (unwrap_or (only_above to o) n))) (only_above to o)
  one_above n None =
      ap (only_above to) (ap Some (let same : max n n ≡ n = omega arith in same)) ∙ by (nat_lt to n)
    where
      by : (b : Bool) → cond b (Some n) None ≡ cond b (Some (max n n)) None
      by true = ap Some (let same : n ≡ max n n = omega arith in same)
      by false = refl
  one_above n (Some m) = one_more n m (nat_lt to n) (nat_lt to m) refl refl

  greatest_above : (cs : List CommitItem)
      → only_above to (greatest (map (λ (c : CommitItem). c.number) cs)) ≡ greatest (map (λ (c : CommitItem). c.number) (commits_above to cs))
  greatest_above [] = refl
  greatest_above (c ∷ cs) =
      one_above c.number (greatest (map (λ (x : CommitItem). x.number) cs))
      ∙ ap (λ o. cond (nat_lt to c.number) (Some (max c.number (unwrap_or o c.number))) o) (greatest_above cs)
      ∙ by (nat_lt to c.number)
    where
      by : (b : Bool) → cond b (Some (max c.number (unwrap_or (greatest (map (λ (x : CommitItem). x.number) (commits_above to cs))) c.number)))
          (greatest (map (λ (x : CommitItem). x.number) (commits_above to cs)))
          ≡ greatest (map (λ (x : CommitItem). x.number) (cond b (c ∷ commits_above to cs) (commits_above to cs)))
      by true = refl
      by false = refl

  pub above_twice : (more : ℕ) → to ≤ more → (o : Option ℕ) → only_above more (only_above to o) ≡ only_above more o
  above_twice more fits None = refl
  above_twice more fits (Some n) = by (nat_lt to n) refl
    where
      by : (b : Bool) → nat_lt to n ≡ b → only_above more (cond b (Some n) None) ≡ only_above more (Some n)
      by true is = refl
      by false is =
          let low = ltb-false to n is in
          sym (ap (λ b. cond b (Some n) None) (le-ltb more n (omega (arith, low, fits))))

-- ---- what touches
module _ (keys : Keys) (number : ℕ) where
  abbrev before : CommitItem → Bool
  before c = nat_lt c.number number && touches c.keys keys

  -- all rising commits are above 0 and below a number that is above them
  all_before : (least most : ℕ) (cs : List CommitItem) → most < number → RiseWithin least most cs
      → filter (is_related touches 0 keys) cs ≡ filter before cs
  all_before least most [] below rise = refl
  all_before least most (c ∷ cs) below rise =
      ap (λ b. cond (b && touches c.keys keys) (c ∷ filter (is_related touches 0 keys) cs) (filter (is_related touches 0 keys) cs))
      (lt-ltb 0 c.number (omega (arith, rise.0))
      ∙ sym (lt-ltb c.number number (omega (arith, below, rise.1))))
      ∙ ap (λ xs. cond (before c) (c ∷ xs) xs) (all_before c.number most cs below rise.2)

  -- the latest kept commit that touches is the one in the way, where it is above
  pub kept-way : (low committed most : ℕ) (cs : List CommitItem) → low ≤ committed → most < number → RiseWithin 0 most cs
      → only_above committed (greatest_related touches (commits_above low cs) 0 keys)
      ≡ greatest (touching_before (commits_above committed cs) number keys)
  kept-way low committed most cs fits below rise =
      greatest_above committed (filter (is_related touches 0 keys) (commits_above low cs))
      ∙ ap (λ found. greatest (map (λ (c : CommitItem). c.number) found))
      (filter_swap (λ (c : CommitItem). nat_lt committed c.number) (is_related touches 0 keys) (commits_above low cs)
      ∙ ap (filter (is_related touches 0 keys)) (above_both low committed fits cs)
      ∙ all_before 0 most (commits_above committed cs) below (rise_above committed 0 most cs rise))

  -- above a greater number
  pub higher-way : (committed more : ℕ) (cs : List CommitItem) → committed ≤ more
      → only_above more (greatest (touching_before (commits_above committed cs) number keys))
      ≡ greatest (touching_before (commits_above more cs) number keys)
  higher-way committed more cs fits =
      greatest_above more (filter before (commits_above committed cs))
      ∙ ap (λ found. greatest (map (λ (c : CommitItem). c.number) found))
      (filter_swap (λ (c : CommitItem). nat_lt more c.number) before (commits_above committed cs)
      ∙ ap (filter before) (above_both committed more fits cs))

  none_later : (committed : ℕ) (commit : CommitItem) → number ≤ commit.number → filter before (commits_above committed (commit ∷ [])) ≡ []
  none_later committed commit later = by (nat_lt committed commit.number)
    where
      by : (b : Bool) → filter before (cond b (commit ∷ []) []) ≡ []
      by true = ap (λ b. cond (b && touches commit.keys keys) (commit ∷ []) []) (le-ltb commit.number number later)
      by false = refl

  -- a later commit changes nothing
  pub later-way : (committed : ℕ) (cs : List CommitItem) (made : Option CommitItem)
      → ((commit : CommitItem) → made ≡ Some commit → number ≤ commit.number)
      → greatest (touching_before (commits_above committed (cs ++ as_list made)) number keys)
      ≡ greatest (touching_before (commits_above committed cs) number keys)
  later-way committed cs None later =
      ap (λ all. greatest (touching_before (commits_above committed all) number keys)) (append-nil cs)
  later-way committed cs (Some commit) later =
      let test = λ (c : CommitItem). nat_lt committed c.number in
      ap (λ found. greatest (map (λ (c : CommitItem). c.number) found))
      (ap (filter before) (filter-append test cs (commit ∷ []))
      ∙ filter-append before (commits_above committed cs) (commits_above committed (commit ∷ []))
      ∙ ap (λ rest. filter before (commits_above committed cs) ++ rest) (none_later committed commit (later commit refl))
      ∙ append-nil (filter before (commits_above committed cs)))
