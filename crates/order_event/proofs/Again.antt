-- What is spelled is read again.
use Rattle.std.proofs.Common.{◌≡◌, ℕ, ◌+◌, ◌*◌, ◌^◌, ◌<◌, Bool, true, false, List, [], ◌∷◌, ◌++◌, length, flat_map, Ok, Option, Some, None, refl, sym, ap, ◌∙◌, append_assoc, arith}
use Rattle.std.specs.Prelude.{◌&&◌}
use Rattle.std.specs.List.{AllByRecursion}
use Rattle.std.specs.Int.{w32, w64, to_be_bytes}
use Rattle.std.proofs.lemmas.List.{append-nil, length-append}
use Rattle.std.proofs.lemmas.List.Concat.{flat_map-cons}
use Rattle.wsrep_base.proofs.Fields.{place, bytes_again, number_again, wide32, wide64, byte_again}
use Rattle.order_event.specs.declared.event.Event.{Event}
use Rattle.order_event.specs.declared.event.Event.TheVariants.{Write, View, Report}
use Rattle.order_event.specs.declared.fault.EventFault.TheVariants.{Short}
use Rattle.order_event.specs.Spelling.{spelling, event_len, is_above, rise_from, HasSpelling, FitsTypes}
use Rattle.order_event.specs.Reading.{member_at, members_at, write_at, view_at, report_at, event_at, read}

and_both : (a b : Bool) → (a && b) ≡ true → (a ≡ true) × (b ≡ true)
and_both true b e = (refl, e)
and_both false b e = absurd cc

member_again : (before : Option ℕ) (m : ℕ) (rest : List ℕ) (at : ℕ) → m < 2 ^ 32
    → is_above before m ≡ true
    → member_at before (place (to_be_bytes w32 m ++ rest) at) ≡ Ok (m, place rest (at + 4))
unfolding member_at
member_again before m rest at fits above =
    rw (number_again Short w32 (2 ^ 32) wide32 m rest at fits, above) refl

members_again : (before : Option ℕ) (ms rest : List ℕ) (at : ℕ)
    → AllByRecursion (λ m. m < 2 ^ 32) ms → rise_from before ms ≡ true
    → (q : ℕ)
    × (members_at (length ms) before (place (flat_map (to_be_bytes w32) ms ++ rest) at)
    ≡ Ok (ms, place rest q))
unfolding members_at
members_again before [] rest at fit rising = (at, refl)
members_again before (m ∷ ms) rest at fit rising =
    let r = and_both (is_above before m) (rise_from (Some m) ms) rising in
    let first = to_be_bytes w32 m in
    let others = flat_map (to_be_bytes w32) ms in
    let f = member_again before m (others ++ rest) at fit.0 r.0 in
    let o = members_again (Some m) ms rest (at + 4) fit.1 r.1 in
    let is : members_at (length (m ∷ ms)) before (place (first ++ (others ++ rest)) at)
    ≡ Ok (m ∷ ms, place rest o.0) = rw (f, o.1) refl in
    let text : flat_map (to_be_bytes w32) (m ∷ ms) ++ rest ≡ first ++ (others ++ rest) =
    ap (λ (t : List ℕ). t ++ rest) (flat_map-cons (to_be_bytes w32) m ms)
    ∙ append_assoc first others rest in
    (o.0, ap (λ (t : List ℕ). members_at (length (m ∷ ms)) before (place t at)) text ∙ is)

members_len : (ms : List ℕ) → length (flat_map (to_be_bytes w32) ms) ≡ 4 * length ms
members_len [] = refl
members_len (m ∷ ms) =
    ap length (flat_map-cons (to_be_bytes w32) m ms)
    ∙ length-append (to_be_bytes w32 m) (flat_map (to_be_bytes w32) ms)
    ∙ (let e : length (flat_map (to_be_bytes w32) ms) ≡ 4 * length ms = members_len ms in
    omega (arith, e))

pub spelling_len : (e : Event) → length (spelling e) ≡ event_len e
unfolding spelling
spelling_len (Write member body) = omega arith
spelling_len (View version members) = omega (arith, members_len members)
spelling_len (Report member number) = refl

-- an event at the front, and nothing behind it, is the whole
all_read : (text : List ℕ) (e : Event) (q : ℕ)
    → event_at (place (text ++ []) 0) ≡ Ok (e, place [] q) → read text ≡ Ok e
unfolding read
all_read text e q is =
    let whole : event_at (place text 0) ≡ Ok (e, place [] q) =
    ap (λ (t : List ℕ). event_at (place t 0)) (sym (append-nil text)) ∙ is in
    rw whole refl

write_again : (member : ℕ) (body : List ℕ) → member < 2 ^ 32 → length body < 2 ^ 32
    → read (1 ∷ (to_be_bytes w32 member ++ (to_be_bytes w32 (length body) ++ body)))
    ≡ Ok (Write member body)
unfolding event_at write_at
write_again member body fits short =
    let count = to_be_bytes w32 (length body) in
    all_read (1 ∷ (to_be_bytes w32 member ++ (count ++ body))) (Write member body) (9 + length body)
    (rw (
      byte_again Short 1 (to_be_bytes w32 member ++ (count ++ (body ++ []))) 0,
      number_again Short w32 (2 ^ 32) wide32 member (count ++ (body ++ [])) 1 fits,
      number_again Short w32 (2 ^ 32) wide32 (length body) (body ++ []) 5 short,
      bytes_again Short (length body) body [] 9 refl,
    ) refl)

view_again : (version : ℕ) (members : List ℕ) → version < 2 ^ 32 → length members < 2 ^ 32
    → AllByRecursion (λ m. m < 2 ^ 32) members → rise_from None members ≡ true
    → read (2 ∷ (to_be_bytes w32 version
    ++ (to_be_bytes w32 (length members) ++ flat_map (to_be_bytes w32) members)))
    ≡ Ok (View version members)
unfolding event_at view_at
view_again version members fits few fit rising =
    let count = to_be_bytes w32 (length members) in
    let text = flat_map (to_be_bytes w32) members in
    let m = members_again None members [] 9 fit rising in
    all_read (2 ∷ (to_be_bytes w32 version ++ (count ++ text))) (View version members) m.0 (rw (
      byte_again Short 2 (to_be_bytes w32 version ++ (count ++ (text ++ []))) 0,
      number_again Short w32 (2 ^ 32) wide32 version (count ++ (text ++ [])) 1 fits,
      number_again Short w32 (2 ^ 32) wide32 (length members) (text ++ []) 5 few,
      m.1,
    ) refl)

report_again : (member number : ℕ) → member < 2 ^ 32 → number < 2 ^ 64
    → read (3 ∷ (to_be_bytes w32 member ++ to_be_bytes w64 number)) ≡ Ok (Report member number)
unfolding event_at report_at
report_again member number fits fit =
    let n = to_be_bytes w64 number in
    all_read (3 ∷ (to_be_bytes w32 member ++ n)) (Report member number) 13 (rw (
      byte_again Short 3 (to_be_bytes w32 member ++ (n ++ [])) 0,
      number_again Short w32 (2 ^ 32) wide32 member (n ++ []) 1 fits,
      number_again Short w64 (2 ^ 64) wide64 number [] 5 fit,
    ) refl)

pub read_again : (e : Event) → FitsTypes e → HasSpelling e → read (spelling e) ≡ Ok e
unfolding spelling
read_again (Write member body) fits has = write_again member body fits has
read_again (View version members) fits has =
    view_again version members fits.0 has.0 fits.1 has.1
read_again (Report member number) fits has = report_again member number fits.0 fits.1
