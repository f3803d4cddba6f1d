-- Each step keeps the rule of the table.
use Rattle.std.proofs.Common.{◌≡◌, ℕ, ◌+◌, ◌%◌, ◌^◌, ◌<◌, ◌≤◌, true, false, All, List, [], ◌∷◌, ◌++◌, map, length, get_or, set, refl, sym, ap, ◌∙◌, subst, inl, inr, arith, Option, Some}
use Rattle.std.proofs.Math.Nat.{mod-add-mod}
use Rattle.std.proofs.lemmas.Bool.{false≢true}
use Rattle.std.proofs.lemmas.List.Elements.{All-nil, All-cons, All-set, All-push, All-weaker}
use mathlib.Core.Option.{none, some}
use mathlib.Core.Logic.{dite}
use native.Mathlib.Decide.{ℕ_discrete}
use lib.ListN.{get_elem?, length-map}
use lib.Seq.{map-set, set-get_or}
use Rattle.atomic_table.specs.Table.{State, Me, step, keeps, takes, gives, put_back, Allows, Splits, Joins, opening}
use Rattle.atomic_table.proofs.Lists.{set_again, set_here, set_else, at_map}
use Rattle.node_gate.specs.declared.view.Lock.TheVariants.{Idle, Waiting, Serving, Gone}
use Rattle.node_gate.specs.declared.view.View.{View}
use Rattle.node_gate.specs.Tickets.{Tickets}
use Rattle.node_gate.specs.Seats.{Seats}
use Rattle.node_gate.specs.Views.{is_alive, newcomer, cut, another, joined, gone, taking, done, loaded, lock_of, rank_of}
use Rattle.node_gate.specs.History.{turns_of, with_turn, Allowed}
use Rattle.node_gate.specs.Law.{HoldsInTurn, Knows, Stories, Law}
use Rattle.node_gate.specs.Plays.{ticket_of, drew, looked, released, learned, published, read, Adds, took, gave}
use Rattle.node_gate.proofs.Counts.{inside, map_kept, map_pushed}
use Rattle.node_gate.proofs.Histories.{all_at, entries_turn, starts_itself}
use Rattle.node_gate.proofs.Carried.{same_value}
use Rattle.node_gate.proofs.Locks.{draws, is_turn, reads, releases, adds, goes, opens}
use Rattle.node_gate.proofs.Ranks.{as_many, splits_off, takes_in, one_seat}
use Rattle.node_gate.proofs.Stories.{not_holding, stays, relocks, grows, splits, meets, opens_story}
use Rattle.node_gate.proofs.Places.{kept, pushed, is_home, is_out, frees}
use Rattle.node_gate.proofs.Unmoved.{idle_unserved, relocked, locks_set, lock_at, locks_stay, ranks_stay, same_rank, met_rank, tops_kept, marks_kept, number_is}

-- the word of the ticket that a seat still has
pub ticket_is : {S E M : Type 0} (m m' : Me S (View E M)) (k word : ℕ) → m ≡ m'
    → m'.0.lock ≡ Waiting k → word ≡ k % 2 ^ 64 → word ≡ ticket_of m.0.lock % 2 ^ 64
ticket_is m m' k word same waits is =
    is ∙ ap (λ l. ticket_of l % 2 ^ 64) (sym (ap (λ x. x.0.lock) same ∙ waits))

pub waits_as : {S E M : Type 0} (m m' : Me S (View E M)) (k : ℕ) → m ≡ m'
    → m'.0.lock ≡ Waiting k → m.0.lock ≡ Waiting (ticket_of m.0.lock)
waits_as m m' k same waits = let e : m.0.lock ≡ Waiting k = ap (λ x. x.0.lock) same ∙ waits in
    e ∙ ap (λ l. Waiting (ticket_of l)) (sym e)

module _ {C E M : Type 0} (entries : C → List E) (count : List E → ℕ) (mark : C → M)
    (may : ℕ → E → Type 0) where
  abbrev Rule : State (Option C) (View E M) → Type 0
  Rule = Law entries count mark may

  -- a ticket is drawn
  pub draw_allowed : (slots id : ℕ) (m : Me (Option C) (View E M)) → m.0.lock ≡ Idle
      → Allows Rule slots id m 0 (λ n. (n + 1) % 2 ^ 64) (drew (step slots 0 1 0 none) m)
  draw_allowed slots id m idle s r deep at small = let v = m.0 in
      let alive : is_alive v.lock ≡ true = ap is_alive idle in
      let w : View E M = relocked v (Waiting r.ticket) in (
        w,
        keeps,
        tt,
        record {
          ticket = r.ticket + 1;
          serving = r.serving;
          shown = r.shown;
          its = r.its;
          log = r.log;
          words_are = ap (λ ws. set ws 0 ((get_or ws 0 0 + 1) % 2 ^ 64)) r.words_are
              ∙ ap (λ x. x ∷ (r.serving % 2 ^ 64) ∷ r.shown ∷ []) (mod-add-mod r.ticket (2 ^ 64) 1);
          tickets = subst (λ ls. Tickets ls (r.ticket + 1) r.serving) (sym (locks_set s.views id w))
              (draws (map lock_of s.views) r.ticket r.serving id r.tickets
              (lock_at s.views id v Idle at idle));
          seats = ranks_stay s.views id v w at (same_rank v Idle (Waiting r.ticket) idle refl) r.seats;
          stories = relocks r.log s.views id v (Waiting r.ticket) r.stories at alive
              (λ holds. absurd (not_holding s.views id v Idle r.stories.holding at idle idle_unserved holds));
          place = kept entries count mark r.its r.shown r.log s.homes s.views id v w r.place at refl (λ _. (refl, refl));
          tops = tops_kept r.shown s.views id v w at refl r.tops;
          marks = marks_kept r.its s.views id v w at alive refl r.marks;
          allowed = r.allowed;
        },
        (r.ticket, ap (λ ws. get_or ws 0 0) r.words_are, refl),
      )

  -- the ticket served is loaded
  pub look_allowed : (slots id : ℕ) (m : Me (Option C) (View E M))
      → m.0.lock ≡ Waiting (ticket_of m.0.lock)
      → Allows Rule slots id m 1 (λ n. n) (looked (step slots 1 0 0 none) m)
  look_allowed slots id m waits s r deep at small = let v = m.0 in
      let k : ℕ = ticket_of v.lock in
      let alive : is_alive v.lock ≡ true = ap is_alive waits in
      let w : View E M = relocked v (Serving k) in
      let found : get_or s.words 1 0 ≡ r.serving % 2 ^ 64 = ap (λ ws. get_or ws 1 0) r.words_are in
      let waiting = lock_at s.views id v (Waiting k) at waits in
      dite (ℕ_discrete (get_or s.words 1 0) (k % 2 ^ 64))
      (λ e. (
        w,
        keeps,
        tt,
        record {
          ticket = r.ticket;
          serving = r.serving;
          shown = r.shown;
          its = r.its;
          log = r.log;
          words_are = set-get_or s.words 1 0 ∙ r.words_are;
          tickets = subst (λ ls. Tickets ls r.ticket r.serving) (sym (locks_set s.views id w))
              (reads (map lock_of s.views) r.ticket r.serving id k r.tickets waiting
              (is_turn (map lock_of s.views) r.ticket r.serving id k r.tickets waiting
              (sym found ∙ e)));
          seats = ranks_stay s.views id v w at (same_rank v (Waiting k) (Serving k) waits refl) r.seats;
          stories = relocks r.log s.views id v (Serving k) r.stories at alive
              (λ _. (k, refl));
          place = kept entries count mark r.its r.shown r.log s.homes s.views id v w r.place at refl (λ _. (refl, refl));
          tops = tops_kept r.shown s.views id v w at refl r.tops;
          marks = marks_kept r.its s.views id v w at alive refl r.marks;
          allowed = r.allowed;
        },
        (λ _. refl, λ other. absurd (other e)),
      ))
      (λ other. (
        v,
        keeps,
        tt,
        subst (λ (z : List ℕ × List (View E M)).
            Rule record { words = z.0; homes = s.homes; views = z.1 })
            (λ i. (sym (set-get_or s.words 1 0) i, sym (set_again s.views id v at) i)) r,
        (λ e. absurd (other e), λ _. refl),
      ))

  -- the turn ends
  pub release_allowed : (slots id : ℕ) (m : Me (Option C) (View E M)) (k : ℕ)
      → m.0.lock ≡ Serving k → m.0.holds ≡ false
      → Allows Rule slots id m 1 (λ n. (n + 1) % 2 ^ 64) (released (step slots 1 1 0 none) m)
  release_allowed slots id m k turn free s r deep at small = let v = m.0 in
      let alive : is_alive v.lock ≡ true = ap is_alive turn in
      let w : View E M = relocked v Idle in (
        w,
        keeps,
        tt,
        record {
          ticket = r.ticket;
          serving = r.serving + 1;
          shown = r.shown;
          its = r.its;
          log = r.log;
          words_are = ap (λ ws. set ws 1 ((get_or ws 1 0 + 1) % 2 ^ 64)) r.words_are
              ∙ ap (λ x. (r.ticket % 2 ^ 64) ∷ x ∷ r.shown ∷ []) (mod-add-mod r.serving (2 ^ 64) 1);
          tickets = subst (λ ls. Tickets ls r.ticket (r.serving + 1)) (sym (locks_set s.views id w))
              (releases (map lock_of s.views) r.ticket r.serving id k r.tickets
              (lock_at s.views id v (Serving k) at turn));
          seats = ranks_stay s.views id v w at (same_rank v (Serving k) Idle turn refl) r.seats;
          stories = relocks r.log s.views id v Idle r.stories at alive
              (λ holds. absurd (false≢true (sym free ∙ holds)));
          place = kept entries count mark r.its r.shown r.log s.homes s.views id v w r.place at refl (λ _. (refl, refl));
          tops = tops_kept r.shown s.views id v w at refl r.tops;
          marks = marks_kept r.its s.views id v w at alive refl r.marks;
          allowed = r.allowed;
        },
        refl,
      )

  -- the slot is taken
  pub take_allowed : (slots id : ℕ) (m : Me (Option C) (View E M)) (k : ℕ)
      → m.0.lock ≡ Serving k → m.0.holds ≡ false
      → Allows Rule slots id m 1 (λ n. n) (took entries count mark may (step slots 1 0 0 none) m)
  take_allowed slots id m k turn free s r deep at small = let v = m.0 in
      let alive : is_alive v.lock ≡ true = ap is_alive turn in
      let f = r.stories.each id v at alive in
      let home = is_home entries count mark r.its r.shown r.log s.homes s.views r.ticket r.serving id k v r.tickets
      r.stories.holding at turn free r.place in
      let w : View E M = taking v r.log (count (entries home.value)) in (
        w,
        takes 0 (Some home.value),
        ap (λ hs. get_elem? hs 0) home.at_home,
        record {
          ticket = r.ticket;
          serving = r.serving;
          shown = r.shown;
          its = r.its;
          log = r.log;
          words_are = set-get_or s.words 1 0 ∙ r.words_are;
          tickets = locks_stay s.views id r.ticket r.serving v w at refl r.tickets;
          seats = ranks_stay s.views id v w at refl r.seats;
          stories = stays r.log s.views id v w r.stories at alive (λ g. record {
            own = g.own;
            saw = starts_itself r.log;
            heard = g.heard;
            met = g.met;
          }) (λ _. (k, turn));
          place = inr record {
            seat = id;
            holder = w;
            out = ap (λ hs. set hs 0 none) home.at_home;
            there = set_here s.views id w (inside s.views id v at).0;
            holds = refl;
            knows = refl;
            shows = home.shows;
          };
          tops = let e = home.shows in
              All-set (λ x. x.published ≤ r.shown) s.views id w (omega arith) r.tops;
          marks = marks_kept r.its s.views id v w at alive refl r.marks;
          allowed = r.allowed;
        },
        (
          home.value,
          record {
            log = r.log;
            has = home.has;
            begins = f.saw;
            own = ap (λ n. turns_of n r.log) (number_is s.views id v r.seats at alive) ∙ f.own;
            rises = let e = home.shows in
                let low = all_at (λ x. x.published ≤ r.shown) s.views id v r.tops at in omega arith;
            allowed = r.allowed;
            marked = all_at (Knows r.its) s.views id v r.marks at alive
                ∙ ap Some (sym home.marked);
          },
          refl,
        ),
      )

  -- the slot is given back
  pub give_allowed : (slots id : ℕ) (m : Me (Option C) (View E M)) (k : ℕ) (c : C) (added : List E)
      → m.0.lock ≡ Serving k → m.0.holds ≡ true → m.1 ≡ (0, Some c) ∷ []
      → m.0.published ≡ count (entries c) → m.0.mark ≡ Some (mark c) → Adds entries may m.0 c added
      → Allows Rule slots id m 1 (λ n. n) (gave entries count mark may (step slots 1 0 0 none) m)
  give_allowed slots id m k c added turn holds carried top marked adds s r deep at small = let v = m.0 in
      let w : View E M = done v added in
      let alive : is_alive v.lock ≡ true = ap is_alive turn in
      let out = is_out entries count mark r.its r.shown r.log s.homes s.views r.ticket r.serving id k v r.tickets
      r.stories.holding at turn holds r.place in (
        w,
        gives,
        tt,
        record {
          ticket = r.ticket;
          serving = r.serving;
          shown = r.shown;
          its = r.its;
          log = with_turn v.seen v.number added;
          words_are = set-get_or s.words 1 0 ∙ r.words_are;
          tickets = locks_stay s.views id r.ticket r.serving v w at refl r.tickets;
          seats = ranks_stay s.views id v w at refl r.seats;
          stories = grows s.views id v added (subst (λ l. Stories l s.views) (sym out.1) r.stories) at
              alive (number_is s.views id v r.seats at alive);
          place = inl record {
            value = c;
            at_home = ap (put_back s.homes) carried ∙ ap (λ hs. set hs 0 (some (Some c))) out.0;
            has = adds.0 ∙ sym (entries_turn v.seen v.number added);
            shows = out.2 ∙ top;
            marked = same_value (mark c) r.its (sym marked
                ∙ all_at (Knows r.its) s.views id v r.marks at alive);
            free = frees entries count mark r.its r.shown r.log s.homes s.views r.ticket r.serving id k v w r.tickets
                r.stories.holding at turn refl;
          };
          tops = tops_kept r.shown s.views id v w at refl r.tops;
          marks = marks_kept r.its s.views id v w at alive refl r.marks;
          allowed = All-push (λ t. All (may t.seat) t.entries) v.seen
              (record { seat = v.number; entries = added })
              (subst (Allowed may) (sym out.1) r.allowed) adds.1;
        },
        (added, refl, (c, carried, adds)),
      )

  -- the whole history is seen
  pub learn_allowed : (slots id : ℕ) (m : Me (Option C) (View E M)) → m.0.lock ≡ Idle
      → Allows Rule slots id m 1 (λ n. n) (learned (step slots 1 0 0 none) m)
  learn_allowed slots id m idle s r deep at small = let v = m.0 in
      let w : View E M = record v { seen = r.log } in
      let alive : is_alive v.lock ≡ true = ap is_alive idle in
      let f = r.stories.each id v at alive in (
        w,
        keeps,
        tt,
        record {
          ticket = r.ticket;
          serving = r.serving;
          shown = r.shown;
          its = r.its;
          log = r.log;
          words_are = set-get_or s.words 1 0 ∙ r.words_are;
          tickets = locks_stay s.views id r.ticket r.serving v w at refl r.tickets;
          seats = ranks_stay s.views id v w at refl r.seats;
          stories = stays r.log s.views id v w r.stories at alive (λ g. record {
            own = g.own;
            saw = starts_itself r.log;
            heard = g.heard;
            met = g.met;
          }) (all_at HoldsInTurn s.views id v r.stories.holding at);
          place = kept entries count mark r.its r.shown r.log s.homes s.views id v w r.place at refl
              (λ holds. absurd (not_holding s.views id v Idle r.stories.holding at idle idle_unserved holds));
          tops = tops_kept r.shown s.views id v w at refl r.tops;
          marks = marks_kept r.its s.views id v w at alive refl r.marks;
          allowed = r.allowed;
        },
        (r.log, refl, f.saw, f.heard),
      )

  -- a number is published
  pub publish_allowed : (slots id : ℕ) (m : Me (Option C) (View E M)) (k n : ℕ)
      → m.0.lock ≡ Serving k → m.0.holds ≡ true → m.0.published ≤ n
      → Allows Rule slots id m 2 (λ _. n) (λ _. published (step slots 2 n 0 none) m n)
  publish_allowed slots id m k n turn holds rises s r deep at small = let v = m.0 in
      let w : View E M = record v { published = n } in
      let alive : is_alive v.lock ≡ true = ap is_alive turn in
      let out = is_out entries count mark r.its r.shown r.log s.homes s.views r.ticket r.serving id k v r.tickets
      r.stories.holding at turn holds r.place in (
        w,
        keeps,
        tt,
        record {
          ticket = r.ticket;
          serving = r.serving;
          shown = n;
          its = r.its;
          log = r.log;
          words_are = ap (λ ws. set ws 2 n) r.words_are;
          tickets = locks_stay s.views id r.ticket r.serving v w at refl r.tickets;
          seats = ranks_stay s.views id v w at refl r.seats;
          stories = stays r.log s.views id v w r.stories at alive
              (λ g. record { own = g.own; saw = g.saw; heard = g.heard; met = g.met })
              (all_at HoldsInTurn s.views id v r.stories.holding at);
          place = inr record {
            seat = id;
            holder = w;
            out = out.0;
            there = set_here s.views id w (inside s.views id v at).0;
            holds = holds;
            knows = out.1;
            shows = refl;
          };
          tops = All-set (λ x. x.published ≤ n) s.views id w (omega arith)
              (All-weaker (λ x. x.published ≤ r.shown) (λ x. x.published ≤ n)
              (λ x low. let e = out.2 in omega arith) s.views r.tops);
          marks = marks_kept r.its s.views id v w at alive refl r.marks;
          allowed = r.allowed;
        },
        refl,
      )

  -- the number published is loaded
  pub read_allowed : (slots id : ℕ) (m : Me (Option C) (View E M)) → m.0.lock ≡ Idle
      → Allows Rule slots id m 2 (λ n. n) (read (step slots 2 0 0 none) m)
  read_allowed slots id m idle s r deep at small = let v = m.0 in
      let n : ℕ = get_or s.words 2 0 in let w : View E M = loaded v n in
      let found : n ≡ r.shown = ap (λ ws. get_or ws 2 0) r.words_are in
      let low = all_at (λ x. x.published ≤ r.shown) s.views id v r.tops at in
      let alive : is_alive v.lock ≡ true = ap is_alive idle in (
        w,
        keeps,
        tt,
        record {
          ticket = r.ticket;
          serving = r.serving;
          shown = r.shown;
          its = r.its;
          log = r.log;
          words_are = set-get_or s.words 2 0 ∙ r.words_are;
          tickets = locks_stay s.views id r.ticket r.serving v w at refl r.tickets;
          seats = ranks_stay s.views id v w at refl r.seats;
          stories = stays r.log s.views id v w r.stories at alive
              (λ g. record { own = g.own; saw = g.saw; heard = g.heard; met = g.met })
              (all_at HoldsInTurn s.views id v r.stories.holding at);
          place = kept entries count mark r.its r.shown r.log s.homes s.views id v w r.place at refl
              (λ holds. absurd (not_holding s.views id v Idle r.stories.holding at idle idle_unserved holds));
          tops = All-set (λ x. x.published ≤ r.shown) s.views id w (omega arith) r.tops;
          marks = marks_kept r.its s.views id v w at alive refl r.marks;
          allowed = r.allowed;
        },
        (refl, omega arith),
      )

  -- a seat is split off the first one
  pub split_allowed : (id : ℕ) (v : View E M) → v.lock ≡ Idle → v.number ≡ 0
      → v.splits + 2 < 2 ^ 64 → Splits Rule id v (cut v) (another v)
  split_allowed id v idle first room s r at =
      let alive : is_alive v.lock ≡ true = ap is_alive idle in
      let there = at_map rank_of s.views id v at in
      let many : v.splits + 1 ≡ length (map rank_of s.views) =
      as_many (map rank_of s.views) id (rank_of v) r.seats there alive first in record {
        ticket = r.ticket;
        serving = r.serving;
        shown = r.shown;
        its = r.its;
        log = r.log;
        words_are = r.words_are;
        tickets = subst (λ ls. Tickets ls r.ticket r.serving)
            (sym (map_pushed lock_of (set s.views id (cut v)) (another v)
            ∙ ap (λ ls. ls ++ Idle ∷ []) (map_kept lock_of s.views id v (cut v) at refl)))
            (adds (map lock_of s.views) r.ticket r.serving r.tickets
            (let a = length-map s.views lock_of in let b = length-map s.views (rank_of {E = E} {M = M}) in
            omega arith));
        seats = subst Seats (sym (map_pushed rank_of (set s.views id (cut v)) (another v)
            ∙ ap (λ rs. rs ++ rank_of (another v) ∷ []) (map-set rank_of s.views id (cut v))))
            (splits_off (map rank_of s.views) id (rank_of v) r.seats there alive first);
        stories = splits r.log s.views id v r.stories at alive;
        place = pushed entries count mark r.its r.shown r.log s.homes (set s.views id (cut v)) (another v)
            (kept entries count mark r.its r.shown r.log s.homes s.views id v (cut v) r.place at refl (λ _. (refl, refl))) refl;
        tops = All-push (λ x. x.published ≤ r.shown) (set s.views id (cut v)) (another v)
            (tops_kept r.shown s.views id v (cut v) at refl r.tops)
            (all_at (λ x. x.published ≤ r.shown) s.views id v r.tops at);
        marks = All-push (Knows r.its) (set s.views id (cut v)) (another v)
            (marks_kept r.its s.views id v (cut v) at alive refl r.marks)
            (λ _. all_at (Knows r.its) s.views id v r.marks at alive);
        allowed = r.allowed;
      }

  -- the first seat takes another in
  pub meet_allowed : (id other : ℕ) (v w : View E M) → v.lock ≡ Idle → v.number ≡ 0
      → w.lock ≡ Idle → w.holds ≡ false → Joins Rule id v other w (joined v w) gone
  meet_allowed id other v w idle first idle' free s r at apart at' =
      let met : View E M = joined v w in
      let vs : List (View E M) = set s.views id met in
      let alive : is_alive v.lock ≡ true = ap is_alive idle in
      let alive' : is_alive w.lock ≡ true = ap is_alive idle' in
      let there : get_elem? s.views other ≡ some w =
      sym (set_else s.views id other met apart) ∙ at' in record {
        ticket = r.ticket;
        serving = r.serving;
        shown = r.shown;
        its = r.its;
        log = r.log;
        words_are = r.words_are;
        tickets = subst (λ ls. Tickets ls r.ticket r.serving)
            (sym (map-set lock_of vs other gone
            ∙ ap (λ ls. set ls other Gone) (map_kept lock_of s.views id v met at refl)))
            (goes (map lock_of s.views) r.ticket r.serving other r.tickets
            (lock_at s.views other w Idle there idle'));
        seats = subst Seats (sym (map-set rank_of vs other gone
            ∙ ap (λ rs. set rs other (rank_of (gone {E = E} {M = M})))
            (map-set rank_of s.views id met
            ∙ ap (set (map rank_of s.views) id) (met_rank v w))))
            (takes_in (map rank_of s.views) id other (rank_of v) (rank_of w)
            (rank_of (gone {E = E} {M = M})) r.seats (at_map rank_of s.views id v at) alive first apart
            (at_map rank_of s.views other w there) alive' refl);
        stories = meets r.log s.views id other v w r.stories at alive there alive'
            (number_is s.views other w r.seats there alive') apart;
        place = kept entries count mark r.its r.shown r.log s.homes vs other w gone
            (kept entries count mark r.its r.shown r.log s.homes s.views id v met r.place at refl
            (λ holds. absurd (not_holding s.views id v Idle r.stories.holding at idle idle_unserved holds)))
            at' (sym free) (λ holds. absurd (false≢true (sym free ∙ holds)));
        tops = let a = all_at (λ x. x.published ≤ r.shown) s.views id v r.tops at in
            let b = all_at (λ x. x.published ≤ r.shown) s.views other w r.tops there in
            All-set (λ x. x.published ≤ r.shown) vs other gone (omega arith)
            (All-set (λ x. x.published ≤ r.shown) s.views id met (omega arith) r.tops);
        marks = All-set (Knows r.its) vs other gone (λ e. absurd (false≢true e))
            (marks_kept r.its s.views id v met at alive refl r.marks);
        allowed = r.allowed;
      }

  -- the gate is new
  pub opens_allowed : (value : C) (shown : ℕ) → entries value ≡ []
      → shown ≡ count (entries value)
      → Rule (opening (0 ∷ 0 ∷ shown ∷ []) (Some value ∷ []) (newcomer 0 [] 0 (Some (mark value))))
  opens_allowed value shown empty shows = record {
    ticket = 0;
    serving = 0;
    shown = shown;
    its = mark value;
    log = [];
    words_are = refl;
    tickets = opens;
    seats = one_seat (rank_of (newcomer {E = E} 0 [] 0 (Some (mark value)))) refl refl refl refl;
    stories = opens_story (newcomer 0 [] 0 (Some (mark value))) refl refl refl refl refl;
    place = inl record {
      value = value;
      at_home = refl;
      has = empty;
      shows = shows;
      marked = refl;
      free = All-cons (λ x. x.holds ≡ false) (newcomer 0 [] 0 (Some (mark value))) [] refl
          (All-nil (λ x. x.holds ≡ false));
    };
    tops = All-cons (λ x. x.published ≤ shown) (newcomer 0 [] 0 (Some (mark value))) [] (omega arith)
        (All-nil (λ x. x.published ≤ shown));
    marks = All-cons (Knows (mark value)) (newcomer 0 [] 0 (Some (mark value))) [] (λ _. refl)
        (All-nil (Knows (mark value)));
    allowed = All-nil (λ t. All (may t.seat) t.entries);
  }
