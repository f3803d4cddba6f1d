-- What the words ask for, by what the command `load` makes of them.
use Rattle.std.proofs.Common.{◌≡◌, ℕ, Bool, true, false, cond, List, [], ◌∷◌, refl, sym, ap, subst, ◌∙◌}
use Rattle.std.specs.Prelude.{◌&&◌, Option, Some, None, IsTrue}
use Rattle.clap.specs.Words.{IsAmong, Kinds, Row, fault_of, is_simple, is_simple_and_free, matches_of}
use Rattle.clap.specs.declared.error.kind.ErrorKind.{ErrorKind}
use Rattle.galera_run.specs.declared.words.Asked.{Asked}
use Rattle.galera_run.specs.Words.{IsSteps, is_load, load_app, load_asked, numbers_of, passes}
use Rattle.galera_run.specs.Program.{CutsAsked}

pub is_known : is_simple_and_free load_app ≡ true
is_known = refl

pub is_plain : is_simple load_app ≡ true
is_plain = refl

-- they do not begin with `load`
pub not_load : (words : List (List ℕ)) → is_load words ≡ false → None ≡ load_asked words
unfolding load_asked
not_load words other =
    ap (λ b. cond (b && passes (fault_of load_app words)) (numbers_of (matches_of load_app words)) None) (sym other)

-- the command takes them
pub taken : (words : List (List ℕ)) (rows : List Row) → is_load words ≡ true → fault_of load_app words ≡ []
    → rows ≡ matches_of load_app words → numbers_of rows ≡ load_asked words
unfolding load_asked
taken words rows first none same =
    ap numbers_of same
    ∙ (λ i. cond (sym first i && passes (sym none i)) (numbers_of (matches_of load_app words)) None)

by_fault : (b : Bool) (kinds : Kinds) (k : ErrorKind) (numbers : Option Asked) → IsAmong k kinds
    → None ≡ cond (b && passes kinds) numbers None
by_fault b [] k numbers among = absurd among
by_fault true (x ∷ xs) k numbers among = refl
by_fault false (x ∷ xs) k numbers among = refl

-- it refuses them
pub refused : (words : List (List ℕ)) (k : ErrorKind) (kinds : Kinds) → kinds ≡ fault_of load_app words → IsAmong k kinds
    → None ≡ load_asked words
unfolding load_asked
refused words k kinds same among =
    by_fault (is_load words) kinds k (numbers_of (matches_of load_app words)) among
    ∙ ap (λ ks. cond (is_load words && passes ks) (numbers_of (matches_of load_app words)) None) same

-- words that ask for a workload begin with `load`
by_first : (b k : Bool) (numbers : Option Asked) (a : Asked) → Some a ≡ cond (b && k) numbers None → IsTrue b
by_first true k numbers a e = refl
by_first false k numbers a e = absurd cc

pub asked_first : (words : List (List ℕ)) (a : Asked) → Some a ≡ load_asked words → IsTrue (is_load words)
unfolding load_asked
asked_first words a e =
    by_first (is_load words) (passes (fault_of load_app words)) (numbers_of (matches_of load_app words)) a e

-- the command `steps` asks for none
pub steps_cut : (words : List (List ℕ)) (old new : Option (List ℕ)) → IsSteps words → CutsAsked (load_asked words) old new
steps_cut words old new is =
    let P : Option Asked → Type 0 = λ asked. CutsAsked asked old new in
    subst P (not_load words (ap is_load is)) tt
