-- how reading from a source adds up, and what a whole run is
use Rattle.std.proofs.Common.{◌≡◌, ℕ, List, [], ◌++◌, refl, sym, ap, ◌∙◌, append_assoc, length-append, subst, inl, inr, arith}
use Rattle.std.specs.Prelude.{Option, Some, None}
use Rattle.std.specs.Io.KnownBytes.{Appends, Keeps, Consumes, IsAtEnd}
use Rattle.std.proofs.KnownBytes.{Keeps-refl}
use Rattle.std.proofs.lemmas.List.{append-nil}
use Rattle.script_text.specs.declared.line.ScriptCause.{ScriptCause}
use Rattle.galera_run.specs.declared.fault.Finished.{Finished}
use Rattle.galera_run.specs.declared.fault.RunFault.{RunFault}
use Rattle.galera_run.specs.declared.fault.RunFault.TheVariants as stop
use Rattle.galera_run.specs.Places.{Script}
use Rattle.galera_run.specs.Lines.{last_line, no_line}
use Rattle.galera_run.specs.Reading.{Told, Run, start, front, run_told, run_of, told_so_far, fault}
use Rattle.galera_run.specs.Writing.{AppendsFront}
use Rattle.galera_run.specs.Feeding.{told_by, IsSound, Stops, Halts, Reads, ReadsRefused, ReadsCut, ReadsHalted, ReadStops}
use Rattle.galera_run.specs.Outcome.{TellsAll, TellsRefusal, TellsRead, EndStops, RunTells, RunStops}
use Rattle.galera_run.proofs.Writes.{appends_both, keeps_appends}
use Rattle.galera_run.proofs.Readings.{goes_nothing, feeds_nothing, feeds_both, feeds_refuses, feeds_cuts, front_later, front_of_more, halts_later, halts_there}
use Rattle.galera_run.proofs.Endings.{run_behind, run_front, tells_behind, refusal_behind}
use Rattle.galera_run.proofs.FirstLines.{first, tells_all_lines, halts_first}

keeps_consumes : (a b : Option (List ℕ)) → Keeps a b → Consumes a b []
keeps_consumes None b p = tt
keeps_consumes (Some xs) None p = absurd p
keeps_consumes (Some xs) (Some ys) p = sym p

consumes_both : (a b c : Option (List ℕ)) (x y : List ℕ) → Consumes a b x → Consumes b c y → Consumes a c (x ++ y)
consumes_both None b c x y p q = tt
consumes_both (Some xs) None c x y p q = absurd p
consumes_both (Some xs) (Some ys) None x y p q = absurd q
consumes_both (Some xs) (Some ys) (Some zs) x y p q = p ∙ ap (λ z. x ++ z) q ∙ sym (append_assoc x y zs)

-- a read that gave nothing
pub reads_nothing : (a b : Option (List ℕ)) (s : Script) (w : Option (List ℕ)) → Keeps a b → Reads a b s s w w
reads_nothing a b s w k = record { taken = []; consumed = keeps_consumes a b k; feeds = feeds_nothing s w; count = omega arith }

-- nothing was read yet, and what was written stays
pub reads_sent : (a : Option (List ℕ)) (s : Script) (v w : Option (List ℕ)) → Keeps v w
    → Reads a a s s v w
reads_sent a s v w k = record {
  taken = [];
  consumed = keeps_consumes a a (Keeps-refl a);
  feeds = record { text = []; written = keeps_appends v w k; goes_on = goes_nothing s };
  count = omega arith;
}

-- and it could not be sent out
pub cut_sent : (a : Option (List ℕ)) (s : Script) (v w : Option (List ℕ)) → Keeps v w
    → ReadsCut a a s v w
cut_sent a s v w k = record {
  taken = [];
  consumed = keeps_consumes a a (Keeps-refl a);
  cuts = λ bytes. record {
    text = [];
    written = keeps_appends v w k;
    is_front = ((told_by last_line s bytes).text, refl);
  };
}

pub reads_both : (a b c : Option (List ℕ)) (s t r : Script) (u v w : Option (List ℕ)) → Reads a b s t u v →
    Reads b c t r v w → Reads a c s r u w
reads_both a b c s t r u v w p q = record {
  taken = p.taken ++ q.taken;
  consumed = consumes_both a b c p.taken q.taken p.consumed q.consumed;
  feeds = feeds_both s t r p.taken q.taken u v w p.feeds q.feeds;
  count = omega (arith, p.count, q.count, length-append p.taken q.taken);
}

refused_then : (a b c : Option (List ℕ)) (s t : Script) (u v w : Option (List ℕ)) (n : ℕ) (e : ScriptCause) →
    Reads a b s t u v → ReadsRefused b c t v w n e → ReadsRefused a c s u w n e
refused_then a b c s t u v w n e p q = record {
  taken = p.taken ++ q.taken;
  consumed = consumes_both a b c p.taken q.taken p.consumed q.consumed;
  refuses = feeds_refuses s t p.taken q.taken u v w n e p.feeds q.refuses;
}

cut_then : (a b c : Option (List ℕ)) (s t : Script) (u v w : Option (List ℕ)) →
    Reads a b s t u v → ReadsCut b c t v w → ReadsCut a c s u w
cut_then a b c s t u v w p q = record {
  taken = p.taken ++ q.taken;
  consumed = consumes_both a b c p.taken q.taken p.consumed q.consumed;
  cuts = feeds_cuts s t p.taken q.taken u v w p.feeds q.cuts;
}

halted_then : (a b c : Option (List ℕ)) (s t : Script) (u v w : Option (List ℕ)) →
    Reads a b s t u v → ReadsHalted b c t v w → ReadsHalted a c s u w
halted_then a b c s t u v w p q = record {
  taken = p.taken ++ q.taken;
  consumed = consumes_both a b c p.taken q.taken p.consumed q.consumed;
  halts = halts_later s t p.taken q.taken u v w p.feeds q.halts;
}

pub reads_stop : (a b c : Option (List ℕ)) (s t : Script) (u v w : Option (List ℕ)) (f : RunFault) →
    Reads a b s t u v → ReadStops b c t v w f → ReadStops a c s u w f
reads_stop a b c s t u v w (stop.Script n e) p q = refused_then a b c s t u v w n e p q
reads_stop a b c s t u v w stop.Read p q = (q.0, reads_both a b c s t q.0 u v w p q.1, q.2)
reads_stop a b c s t u v w stop.Write p q = cut_then a b c s t u v w p q
reads_stop a b c s t u v w stop.NoMemory p q = halted_then a b c s t u v w p q

-- a piece in which the run stopped
pub piece_stops : (a b : Option (List ℕ)) (s : Script) (t : List ℕ) (v w : Option (List ℕ)) (f : RunFault) →
    Consumes a b t → Stops s t v w f → ReadStops a b s v w f
piece_stops a b s t v w (stop.Script n e) k h = record { taken = t; consumed = k; refuses = h }
piece_stops a b s t v w stop.Read k h = absurd h
piece_stops a b s t v w stop.Write k h = record { taken = t; consumed = k; cuts = h }
piece_stops a b s t v w stop.NoMemory k h = record { taken = t; consumed = k; halts = h }

-- all was read: the whole run is what is left to tell behind what was printed
whole : (input ys : List ℕ) (s : Script) (u v : Option (List ℕ)) (r : Reads (Some input) (Some ys) first s u v) → ys ≡ [] →
    run_of input ≡ run_behind r.feeds.text (run_told (told_by last_line s []))
unfolding run_of
whole input ys s u v r e =
    let all : input ≡ r.taken ++ [] = r.consumed ∙ ap (λ z. r.taken ++ z) e in
    ap (λ z. run_told (told_by last_line first z)) all
    ∙ ap run_told (r.feeds.goes_on.rest last_line [])
    ∙ run_front r.feeds.text (told_by last_line s [])

pub run_tells : (a b : Option (List ℕ)) (s : Script) (u v w : Option (List ℕ)) (done : Finished) → Reads a b first s u v →
    IsAtEnd b → TellsAll (run_told (told_by last_line s [])) v w done → RunTells a u w done
run_tells None b s u v w done r e t = tt
run_tells (Some input) None s u v w done r e t = absurd r.consumed
run_tells (Some input) (Some ys) s u v w done r e t =
    let P : Run → Type 0 = λ run. TellsAll run u w done in
    subst P (sym (whole input ys s u v r e))
    (tells_behind u v w r.feeds.text (run_told (told_by last_line s [])) done r.feeds.written t)

-- the ways in which a run stops at the end of its input, where what was read printed the text before
end_stops : (input ys : List ℕ) (s : Script) (u v w : Option (List ℕ)) (f : RunFault) (r : Reads (Some input) (Some ys) first s u v) →
    ys ≡ [] → EndStops (told_by last_line s []) v w f → RunStops (Some input) (Some ys) u w f
end_stops input ys s u v w (stop.Script n e) r none t =
    let P : Run → Type 0 = λ run. TellsRefusal run u w n e in
    subst P (sym (whole input ys s u v r none))
    (refusal_behind u v w r.feeds.text (run_told (told_by last_line s [])) n e r.feeds.written t)
end_stops input ys s u v w stop.Read r none t = absurd t
end_stops input ys s u v w stop.Write r none t =
    let P : Run → Type 0 = λ run. AppendsFront u w run.text in
    subst P (sym (whole input ys s u v r none))
    (front_later u v w r.feeds.text (run_told (told_by last_line s [])).text r.feeds.written t)
end_stops input ys s u v w stop.NoMemory r none (inl k) =
    halts_first input r.taken ys u w r.consumed
    (subst (λ z. Halts first z u w) (append-nil r.taken) (halts_later first s r.taken [] u v w r.feeds (halts_there s [] v w k)))
end_stops input ys s u v w stop.NoMemory r none (inr told) =
    let all : input ≡ r.taken ++ [] = r.consumed ∙ ap (λ z. r.taken ++ z) none in
    tells_all_lines input u w
    (subst (λ (t : Told). Appends u w t.text) (sym (ap (told_by last_line first) all ∙ r.feeds.goes_on.rest last_line []))
    (appends_both u v w r.feeds.text (told_by last_line s []).text r.feeds.written told))

pub run_ends : (a b : Option (List ℕ)) (s : Script) (u v w : Option (List ℕ)) (f : RunFault) → Reads a b first s u v →
    IsAtEnd b → EndStops (told_by last_line s []) v w f → RunStops a b u w f
run_ends None b s u v w (stop.Script n e) r end t = tt
run_ends None b s u v w stop.Read r end t = absurd t
run_ends None b s u v w stop.Write r end t = tt
run_ends None b s u v w stop.NoMemory r end t = tt
run_ends (Some input) None s u v w f r end t = absurd r.consumed
run_ends (Some input) (Some ys) s u v w f r end t = end_stops input ys s u v w f r end t

refused_run : (input ys : List ℕ) (u w : Option (List ℕ)) (n : ℕ) (e : ScriptCause) →
    ReadsRefused (Some input) (Some ys) first u w n e → TellsRefusal (run_of input) u w n e
unfolding run_of
refused_run input ys u w n e r =
    let told : Told = record { text = r.refuses.text; reached = fault n e } in
    let same : told_by last_line first input ≡ told =
    ap (told_by last_line first) r.consumed ∙ r.refuses.is_refused.rest ys in
    let P : Told → Type 0 = λ t. TellsRefusal (run_told t) u w n e in
    subst P (sym same)
    (record { ending = refl; written = rw (append-nil r.refuses.text) r.refuses.written })

cut_run : (input ys : List ℕ) (u w : Option (List ℕ)) → ReadsCut (Some input) (Some ys) first u w →
    AppendsFront u w (run_of input).text
unfolding run_of
cut_run input ys u w r =
    let P : List ℕ → Type 0 = λ z. AppendsFront u w (run_told (told_by last_line first z)).text in
    subst P (sym r.consumed)
    (front_of_more u w (told_by last_line first (r.taken ++ ys)).text _ (r.cuts ys))

-- the text of the lines whose newline was read; where they came to is a place
read_run : (a b : Option (List ℕ)) (s : Script) (u w : Option (List ℕ)) → Reads a b first s u w → IsSound s → TellsRead a b u w
unfolding told_so_far
read_run a b s u w r sound =
    let told : told_by no_line first r.taken ≡ front r.feeds.text (told_by no_line s []) =
    ap (told_by no_line first) (sym (append-nil r.taken)) ∙ r.feeds.goes_on.rest no_line [] in
    let text : (told_by no_line first r.taken).text ≡ r.feeds.text =
    ap (λ (t : Told). t.text) told ∙ append-nil r.feeds.text in
    record {
      taken = r.taken;
      is_read = record {
        read = r.consumed;
        within = (let count = r.count in let room = sound.room in omega (arith, count, room));
        at = s.place;
        not_refused = ap (λ (t : Told). t.reached) told;
      };
      written = rw text r.feeds.written;
    }

pub run_stops : (a b : Option (List ℕ)) (u w : Option (List ℕ)) (f : RunFault) → ReadStops a b first u w f → RunStops a b u w f
run_stops a b u w stop.Read r = read_run a b r.0 u w r.1 r.2
run_stops None b u w (stop.Script n e) r = tt
run_stops None b u w stop.Write r = tt
run_stops None b u w stop.NoMemory r = tt
run_stops (Some input) None u w (stop.Script n e) r = absurd r.consumed
run_stops (Some input) None u w stop.Write r = absurd r.consumed
run_stops (Some input) None u w stop.NoMemory r = absurd r.consumed
run_stops (Some input) (Some ys) u w (stop.Script n e) r = refused_run input ys u w n e r
run_stops (Some input) (Some ys) u w stop.Write r = cut_run input ys u w r
run_stops (Some input) (Some ys) u w stop.NoMemory r = halts_first input r.taken ys u w r.consumed r.halts

-- a list that was made empty
pub reads_first : (a b : Option (List ℕ)) (q : List ℕ) (s : Script) (u w : Option (List ℕ)) → q ≡ [] →
    Reads a b (record { place = start; pending = q }) s u w → Reads a b first s u w
reads_first a b q s u w e r =
    let P : List ℕ → Type 0 = λ z. Reads a b (record { place = start; pending = z }) s u w in subst P e r

pub stops_first : (a b : Option (List ℕ)) (q : List ℕ) (u w : Option (List ℕ)) (f : RunFault) → q ≡ [] →
    ReadStops a b (record { place = start; pending = q }) u w f → ReadStops a b first u w f
stops_first a b q u w f e r =
    let P : List ℕ → Type 0 = λ z. ReadStops a b (record { place = start; pending = z }) u w f in subst P e r
