-- how the reading of pieces adds up, and what one byte does
use Rattle.std.proofs.Common.{◌≡◌, ◌<◌, ◌≤◌, ℕ, ◌+◌, List, [], ◌∷◌, ◌++◌, length, take, drop, get_or, refl, sym, ap, subst, add-one, drop-cons, ◌∙◌, append_assoc, arith, Bool, true, false, if◌then◌else◌, ◌==◌}
use Rattle.std.specs.Prelude.{Option, Ok, Err}
use Rattle.std.specs.Io.KnownBytes.{Appends, Keeps}
use Rattle.std.proofs.lemmas.Bool.{lt-leb}
use Rattle.std.proofs.lemmas.List.{append-nil, length-append, take-append-drop, take_more}
use Rattle.order_event.specs.declared.step.Answer.{Answer}
use Rattle.script_text.specs.declared.line.ScriptCause.{ScriptCause}
use Rattle.script_text.specs.declared.line.ScriptCause.TheVariants as cause
use Rattle.galera_run.specs.declared.line.TheConstants.{MOST_BYTES}
use Rattle.galera_run.specs.Places.{Place, Script}
use Rattle.galera_run.specs.declared.fault.RunFault.{RunFault}
use Rattle.galera_run.specs.declared.fault.RunFault.TheVariants as stop
use Rattle.galera_run.specs.Lines.{lines_to, last_line}
use Rattle.galera_run.specs.Reading.{Told, front, follows, told_from, line_at, answer_line}
use Rattle.galera_run.specs.Writing.{AppendsFront}
use Rattle.galera_run.specs.Feeding.{told_by, GoesOn, IsRefused, Feeds, Refuses, CutsShort, Halts, Runs, RunsCut, LineStops, Stops}
use Rattle.galera_run.proofs.Writes.{appends_nothing, appends_both, keeps_appends}

pub front_both : (x y : List ℕ) (told : Told) → front x (front y told) ≡ front (x ++ y) told
front_both x y told = ap (λ (z : List ℕ). let t : Told = record { text = z; reached = told.reached } in t) (sym (append_assoc x y told.text))

pub goes_nothing : (s : Script) → GoesOn s s [] []
goes_nothing s = record { rest = λ last bytes. refl }

pub goes_both : (a b c : Script) (s t x y : List ℕ) → GoesOn a b s x → GoesOn b c t y → GoesOn a c (s ++ t) (x ++ y)
goes_both a b c s t x y p q = record {
  rest = λ last bytes.
      ap (told_by last a) (append_assoc s t bytes) ∙ p.rest last (t ++ bytes) ∙ ap (front x) (q.rest last bytes)
      ∙ front_both x y (told_by last c bytes);
}

refused_later : (a b : Script) (s t x y : List ℕ) (n : ℕ) (c : ScriptCause) → GoesOn a b s x → IsRefused b t y n c →
    IsRefused a (s ++ t) (x ++ y) n c
refused_later a b s t x y n c p q = record {
  rest = λ bytes.
      ap (told_by last_line a) (append_assoc s t bytes) ∙ p.rest last_line (t ++ bytes) ∙ ap (front x) (q.rest bytes);
}

pub feeds_nothing : (s : Script) (w : Option (List ℕ)) → Feeds s s [] w w
feeds_nothing s w = record { text = []; written = appends_nothing w; goes_on = goes_nothing s }

pub feeds_both : (a b c : Script) (s t : List ℕ) (u v w : Option (List ℕ)) → Feeds a b s u v → Feeds b c t v w →
    Feeds a c (s ++ t) u w
feeds_both a b c s t u v w p q = record {
  text = p.text ++ q.text;
  written = appends_both u v w p.text q.text p.written q.written;
  goes_on = goes_both a b c s t p.text q.text p.goes_on q.goes_on;
}

pub feeds_refuses : (a b : Script) (s t : List ℕ) (u v w : Option (List ℕ)) (n : ℕ) (c : ScriptCause) →
    Feeds a b s u v → Refuses b t v w n c → Refuses a (s ++ t) u w n c
feeds_refuses a b s t u v w n c p q = record {
  text = p.text ++ q.text;
  written = appends_both u v w p.text q.text p.written q.written;
  is_refused = refused_later a b s t p.text q.text n c p.goes_on q.is_refused;
}

pub front_later : (u v w : Option (List ℕ)) (x all : List ℕ) → Appends u v x → AppendsFront v w all → AppendsFront u w (x ++ all)
front_later u v w x all p f = record {
  text = x ++ f.text;
  written = appends_both u v w x f.text p f.written;
  is_front = (f.is_front.0, ap (λ z. x ++ z) f.is_front.1 ∙ sym (append_assoc x f.text f.is_front.0));
}

pub feeds_cuts : (a b : Script) (s t : List ℕ) (u v w : Option (List ℕ)) → Feeds a b s u v → CutsShort b t v w →
    CutsShort a (s ++ t) u w
feeds_cuts a b s t u v w p q = λ bytes.
    let e : told_by last_line a ((s ++ t) ++ bytes) ≡ front p.text (told_by last_line b (t ++ bytes)) =
    ap (told_by last_line a) (append_assoc s t bytes) ∙ p.goes_on.rest last_line (t ++ bytes) in
    rw e (front_later u v w p.text (told_by last_line b (t ++ bytes)).text p.written (q bytes))

-- no newline: the line goes on
pub byte_goes : (p : Place) (q : List ℕ) (b : ℕ) → (b == 10) ≡ false →
    GoesOn (record { place = p; pending = q }) (record { place = p; pending = q ++ b ∷ [] }) (b ∷ []) []
byte_goes p q b e = record {
  rest = λ last bytes.
      ap (λ (v : Bool). told_from p (if v then (q ++ b ∷ []) ∷ lines_to last [] bytes else lines_to last (q ++ b ∷ []) bytes)) e;
}

-- a newline: the line is run
newline : (last : List ℕ → List (List ℕ)) (p : Place) (q : List ℕ) (b : ℕ) (bytes : List ℕ) → (b == 10) ≡ true →
    told_from p (lines_to last q (b ∷ bytes))
    ≡ follows p (line_at p (q ++ b ∷ [])) (λ next. told_from next (lines_to last [] bytes))
newline last p q b bytes e =
    ap (λ (v : Bool). told_from p (if v then (q ++ b ∷ []) ∷ lines_to last [] bytes else lines_to last (q ++ b ∷ []) bytes)) e

pub newline_goes : (p n : Place) (q : List ℕ) (b : ℕ) (a : Option Answer) → (b == 10) ≡ true →
    line_at p (q ++ b ∷ []) ≡ Ok (a, n) →
    GoesOn (record { place = p; pending = q }) (record { place = n; pending = [] }) (b ∷ []) (answer_line p a)
newline_goes p n q b a e said = record {
  rest = λ last bytes.
      newline last p q b bytes e ∙ ap (λ r. follows p r (λ next. told_from next (lines_to last [] bytes))) said;
}

pub newline_refused : (p : Place) (q : List ℕ) (b : ℕ) (c : ScriptCause) → (b == 10) ≡ true →
    line_at p (q ++ b ∷ []) ≡ Err c → IsRefused (record { place = p; pending = q }) (b ∷ []) [] p.number c
newline_refused p q b c e said = record {
  rest = λ bytes.
      newline last_line p q b bytes e ∙ ap (λ r. follows p r (λ next. told_from next (lines_to last_line [] bytes))) said;
}

-- lines that begin with these bytes
pub record FirstLine (begun : List ℕ) (lines : List (List ℕ)) : Type 0 where
  pub more : List ℕ
  pub later : List (List ℕ)
  pub is : lines ≡ (begun ++ more) ∷ later

-- a line that has begun goes on
first_line : (x : ℕ) (xs bytes : List ℕ) → FirstLine (x ∷ xs) (lines_to last_line (x ∷ xs) bytes)
first_line x xs [] =
    record { more = []; later = []; is = ap (λ (z : List ℕ). let l : List (List ℕ) = z ∷ [] in l) (sym (append-nil (x ∷ xs))) }
first_line x xs (b ∷ bs) =
    elim (b == 10)
    as (λ v. FirstLine (x ∷ xs) (if v then (x ∷ (xs ++ b ∷ [])) ∷ lines_to last_line [] bs else lines_to last_line (x ∷ (xs ++ b ∷ [])) bs)) [
      | true ↦ record { more = b ∷ []; later = lines_to last_line [] bs; is = refl }
      | false ↦ let f = first_line x (xs ++ b ∷ []) bs in
          record {
            more = b ∷ f.more;
            later = f.later;
            is = f.is ∙ ap (λ (z : List ℕ). let l : List (List ℕ) = (x ∷ z) ∷ f.later in l) (append_assoc xs (b ∷ []) f.more);
          }
    ]

begun_line : (q bytes : List ℕ) (b : ℕ) → FirstLine (q ++ b ∷ []) (lines_to last_line (q ++ b ∷ []) bytes)
begun_line [] bytes b = first_line b [] bytes
begun_line (x ∷ xs) bytes b = first_line x (xs ++ b ∷ []) bytes

byte_line : (q bytes : List ℕ) (b : ℕ) → FirstLine (q ++ b ∷ []) (lines_to last_line q (b ∷ bytes))
byte_line q bytes b =
    elim (b == 10)
    as (λ v. FirstLine (q ++ b ∷ []) (if v then (q ++ b ∷ []) ∷ lines_to last_line [] bytes else lines_to last_line (q ++ b ∷ []) bytes)) [
      | true ↦ record {
        more = [];
        later = lines_to last_line [] bytes;
        is = ap (λ (z : List ℕ). let l : List (List ℕ) = z ∷ lines_to last_line [] bytes in l) (sym (append-nil (q ++ b ∷ [])));
      }
      | false ↦ begun_line q bytes b
    ]

limit_passed : (p : Place) (line : List ℕ) → MOST_BYTES < p.before + length line → line_at p line ≡ Err cause.Limit
limit_passed p line h = rw (lt-leb (p.before + length line) MOST_BYTES h)

-- a byte too many is refused, whatever its line says
pub too_far : (p : Place) (q : List ℕ) (b : ℕ) → MOST_BYTES ≤ p.before + length q →
    IsRefused (record { place = p; pending = q }) (b ∷ []) [] p.number cause.Limit
too_far p q b h = record {
  rest = λ bytes.
      let f = byte_line q bytes b in
      let far : MOST_BYTES < p.before + length ((q ++ b ∷ []) ++ f.more) =
      omega (arith, length-append (q ++ b ∷ []) f.more, length-append q (b ∷ [])) in
      ap (told_from p) f.is
      ∙ ap (λ r. follows p r (λ next. told_from next f.later)) (limit_passed p ((q ++ b ∷ []) ++ f.more) far);
}

-- a newline after which the line was run
pub runs_feeds : (p n : Place) (q : List ℕ) (b : ℕ) (v w : Option (List ℕ)) → (b == 10) ≡ true →
    Runs p n (q ++ b ∷ []) v w →
    Feeds (record { place = p; pending = q }) (record { place = n; pending = [] }) (b ∷ []) v w
runs_feeds p n q b v w e r = record {
  text = answer_line p r.answer;
  written = r.written;
  goes_on = newline_goes p n q b r.answer e r.is_answer;
}

pub front_of_more : (v w : Option (List ℕ)) (x y : List ℕ) → AppendsFront v w x → AppendsFront v w (x ++ y)
front_of_more v w x y f = record {
  text = f.text;
  written = f.written;
  is_front = (f.is_front.0 ++ y, ap (λ z. z ++ y) f.is_front.1 ∙ append_assoc f.text f.is_front.0 y);
}

cut_there : (p : Place) (q : List ℕ) (b : ℕ) (v w : Option (List ℕ)) → (b == 10) ≡ true →
    RunsCut p (q ++ b ∷ []) v w → CutsShort (record { place = p; pending = q }) (b ∷ []) v w
cut_there p q b v w e r = λ bytes.
    let g = newline_goes p r.after q b r.answer e r.is_answer in
    rw (g.rest last_line bytes) (front_of_more v w (answer_line p r.answer) _ r.written)

-- no memory before anything was written
pub halts_there : (s : Script) (t : List ℕ) (v w : Option (List ℕ)) → Keeps v w → Halts s t v w
halts_there s t v w k = record {
  fed = [];
  after = s;
  is_front = (t, refl);
  feeds = record { text = []; written = keeps_appends v w k; goes_on = goes_nothing s };
}

pub halts_later : (a b : Script) (s t : List ℕ) (u v w : Option (List ℕ)) → Feeds a b s u v → Halts b t v w → Halts a (s ++ t) u w
halts_later a b s t u v w p q = record {
  fed = s ++ q.fed;
  after = q.after;
  is_front = (q.is_front.0, ap (λ z. s ++ z) q.is_front.1 ∙ sym (append_assoc s q.fed q.is_front.0));
  feeds = feeds_both a b q.after s q.fed u v w p q.feeds;
}

halts_early : (s : Script) (t rest : List ℕ) (v w : Option (List ℕ)) → Halts s t v w → Halts s (t ++ rest) v w
halts_early s t rest v w h = record {
  fed = h.fed;
  after = h.after;
  is_front = (h.is_front.0 ++ rest, ap (λ z. z ++ rest) h.is_front.1 ∙ append_assoc h.fed h.is_front.0 rest);
  feeds = h.feeds;
}

refuses_there : (p : Place) (q : List ℕ) (b : ℕ) (v w : Option (List ℕ)) (number : ℕ) (c : ScriptCause) → (b == 10) ≡ true →
    (number ≡ p.number) × (line_at p (q ++ b ∷ []) ≡ Err c) × Keeps v w →
    Refuses (record { place = p; pending = q }) (b ∷ []) v w number c
refuses_there p q b v w number c e h = rw h.0 (record {
  text = [];
  written = keeps_appends v w h.2;
  is_refused = newline_refused p q b c e h.1;
})

-- a newline after which the line was not run to its end
pub line_stops : (p : Place) (q : List ℕ) (b : ℕ) (v w : Option (List ℕ)) (f : RunFault) → (b == 10) ≡ true →
    LineStops p (q ++ b ∷ []) v w f → Stops (record { place = p; pending = q }) (b ∷ []) v w f
line_stops p q b v w (stop.Script number c) e h = refuses_there p q b v w number c e h
line_stops p q b v w stop.Read e h = absurd h
line_stops p q b v w stop.Write e h = cut_there p q b v w e h
line_stops p q b v w stop.NoMemory e h = halts_there _ (b ∷ []) v w h

-- a stop behind bytes that went well
pub stops_later : (a b : Script) (s t : List ℕ) (u v w : Option (List ℕ)) (f : RunFault) → Feeds a b s u v →
    Stops b t v w f → Stops a (s ++ t) u w f
stops_later a b s t u v w (stop.Script number c) p q = feeds_refuses a b s t u v w number c p q
stops_later a b s t u v w stop.Read p q = absurd q
stops_later a b s t u v w stop.Write p q = feeds_cuts a b s t u v w p q
stops_later a b s t u v w stop.NoMemory p q = halts_later a b s t u v w p q

cuts_early : (s : Script) (t rest : List ℕ) (v w : Option (List ℕ)) → CutsShort s t v w → CutsShort s (t ++ rest) v w
cuts_early s t rest v w h = λ bytes. rw (append_assoc t rest bytes) (h (rest ++ bytes))

refused_early : (s : Script) (t rest : List ℕ) (v w : Option (List ℕ)) (number : ℕ) (c : ScriptCause) →
    Refuses s t v w number c → Refuses s (t ++ rest) v w number c
refused_early s t rest v w number c h = record {
  text = h.text;
  written = h.written;
  is_refused = record { rest = λ bytes. ap (told_by last_line s) (append_assoc t rest bytes) ∙ h.is_refused.rest (rest ++ bytes) };
}

-- a stop before bytes that were not looked at
pub stops_early : (s : Script) (t rest : List ℕ) (v w : Option (List ℕ)) (f : RunFault) → Stops s t v w f →
    Stops s (t ++ rest) v w f
stops_early s t rest v w (stop.Script number c) h = refused_early s t rest v w number c h
stops_early s t rest v w stop.Read h = h
stops_early s t rest v w stop.Write h = cuts_early s t rest v w h
stops_early s t rest v w stop.NoMemory h = halts_early s t rest v w h

-- the bytes before one of a piece, it, and those behind it
piece_parts : (i : ℕ) (piece : List ℕ) → i < length piece →
    piece ≡ take i piece ++ ((get_or piece i 0 ∷ []) ++ drop (i + 1) piece)
piece_parts i piece h =
    sym (take-append-drop i piece) ∙ ap (λ z. take i piece ++ z) (rw (add-one, drop-cons piece i 0) refl)

-- a stop in mid-piece
pub stops_within : (a b : Script) (i : ℕ) (piece : List ℕ) (u v w : Option (List ℕ)) (f : RunFault) → i < length piece →
    Feeds a b (take i piece) u v → Stops b (get_or piece i 0 ∷ []) v w f → Stops a piece u w f
stops_within a b i piece u v w f h p q =
    let P : List ℕ → Type 0 = λ t. Stops a t u w f in
    subst P (sym (piece_parts i piece h))
    (stops_later a b (take i piece) ((get_or piece i 0 ∷ []) ++ drop (i + 1) piece) u v w f p
    (stops_early b (get_or piece i 0 ∷ []) (drop (i + 1) piece) v w f q))

-- one byte more of a piece
pub feeds_more : (a b c : Script) (i : ℕ) (piece : List ℕ) (u v w : Option (List ℕ)) → i < length piece →
    Feeds a b (take i piece) u v → Feeds b c (get_or piece i 0 ∷ []) v w → Feeds a c (take (i + 1) piece) u w
feeds_more a b c i piece u v w h p q =
    rw (take_more piece i 0 h) (feeds_both a b c (take i piece) (get_or piece i 0 ∷ []) u v w p q)
