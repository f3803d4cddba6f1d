-- how what was written adds up
use Rattle.std.proofs.Common.{◌≡◌, ℕ, List, [], ◌++◌, length, ◌-◌, take, drop, refl, sym, ap, ◌∙◌, append_assoc}
use Rattle.std.specs.Prelude.{Option, Some, None, Result, Ok, Err, OnErr}
use Rattle.std.specs.Io.KnownBytes.{Appends, Keeps}
use Rattle.std.proofs.lemmas.List.{take-append-drop, append-nil, length-drop}
use Rattle.std.proofs.Math.Seq.{take-length}
use Rattle.galera_run.specs.Writing.{AppendsFront}

pub appends_nothing : (a : Option (List ℕ)) → Appends a a []
appends_nothing None = tt
appends_nothing (Some xs) = sym (append-nil xs)

pub appends_both : (a b c : Option (List ℕ)) (x y : List ℕ) → Appends a b x → Appends b c y → Appends a c (x ++ y)
appends_both None b c x y p q = tt
appends_both (Some a) None c x y p q = absurd p
appends_both (Some a) (Some b) None x y p q = absurd q
appends_both (Some a) (Some b) (Some c) x y p q = q ∙ ap (λ z. z ++ y) p ∙ append_assoc a x y

pub keeps_appends : (a b : Option (List ℕ)) → Keeps a b → Appends a b []
keeps_appends None b p = tt
keeps_appends (Some a) None p = absurd p
keeps_appends (Some a) (Some b) p = p ∙ sym (append-nil a)

-- all is in parts: what was sent, and the rest
pub record Sends (old new : Option (List ℕ)) (all rest : List ℕ) : Type 0 where
  pub sent : List ℕ
  pub parts : all ≡ sent ++ rest
  pub written : Appends old new sent

pub sends_nothing : (a : Option (List ℕ)) (all : List ℕ) → Sends a a all all
sends_nothing a all = record { sent = []; parts = refl; written = appends_nothing a }

pub sends_more : (a b c : Option (List ℕ)) (all rest : List ℕ) (n : ℕ) → Sends a b all rest →
    Appends b c (take n rest) → Sends a c all (drop n rest)
sends_more a b c all rest n s w = record {
  sent = s.sent ++ take n rest;
  parts = s.parts ∙ ap (λ z. s.sent ++ z) (sym (take-append-drop n rest)) ∙ sym (append_assoc s.sent (take n rest) (drop n rest));
  written = appends_both a b c s.sent (take n rest) s.written w;
}

pub sends_all : (a b : Option (List ℕ)) (all rest : List ℕ) → Sends a b all rest → rest ≡ [] → Appends a b all
sends_all a b all rest s e =
    let same : all ≡ s.sent = s.parts ∙ ap (λ z. s.sent ++ z) e ∙ append-nil s.sent in
    rw same s.written

pub sends_front : (a b c : Option (List ℕ)) (all rest : List ℕ) → Sends a b all rest → AppendsFront b c rest →
    AppendsFront a c all
sends_front a b c all rest s f = record {
  text = s.sent ++ f.text;
  written = appends_both a b c s.sent f.text s.written f.written;
  is_front = (f.is_front.0, s.parts ∙ ap (λ z. s.sent ++ z) f.is_front.1 ∙ sym (append_assoc s.sent f.text f.is_front.0));
}

-- what `&rest[n..]` is
pub drop_rest : (n : ℕ) (rest : List ℕ) → take (length rest - n) (drop n rest) ≡ drop n rest
drop_rest n rest = rw (← length-drop n rest) (take-length (drop n rest))

-- what holds anyhow holds at a fault
pub at_err : {T E : Type 0} {P : Type 0} (r : Result T E) → P → OnErr r P
at_err (Ok x) p = tt
at_err (Err e) p = p

-- a front of the first bytes is a front of all
pub front_of_part : (a b : Option (List ℕ)) (n : ℕ) (all : List ℕ) → AppendsFront a b (take n all) → AppendsFront a b all
front_of_part a b n all f = record {
  text = f.text;
  written = f.written;
  is_front = (
    f.is_front.0 ++ drop n all,
    sym (take-append-drop n all) ∙ ap (λ z. z ++ drop n all) f.is_front.1 ∙ append_assoc f.text f.is_front.0 (drop n all),
  );
}
