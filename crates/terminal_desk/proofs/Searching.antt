-- A desk whose rows can't be read.
use Rattle.std.proofs.Common.{◌≡◌, ℕ, List, [], Ok, Err, sym, subst}
use Rattle.std.specs.Prelude.{IsErrAnd}
use Rattle.std.specs.declared.result.Result.{Result}
use Rattle.std.proofs.lemmas.List.Elements.{All-nil}
use Rattle.keeper.specs.declared.rows.Table.TheVariants as table
use Rattle.keeper.specs.Keeping.{IsDeskRow}
use Rattle.terminal_desk.specs.declared.search.SearchRefusal.{SearchRefusal}
use Rattle.terminal_desk.specs.declared.search.SearchRefusal.TheVariants.{NoChain, KeeperFault, NoMemory}
use Rattle.terminal_desk.specs.Search.{Searches, SearchAsked, IsUnread}

unread : (cars : List (List ℕ)) (e : SearchRefusal) → IsUnread e → Searches cars [] [] (Err e)
unread cars NoChain is = absurd is
unread cars KeeperFault is = tt
unread cars NoMemory is = tt

unread_asked : (desk : ℕ) (cars : List (List ℕ)) (e : SearchRefusal) → IsUnread e → SearchAsked desk cars (Err e)
unread_asked desk cars e is = record {
  own = [];
  own_asked = All-nil (IsDeskRow table.Own desk);
  cas = [];
  cas_asked = All-nil (IsDeskRow table.Ca desk);
  answers = unread cars e is;
}

pub refused_asked : (desk : ℕ) (cars : List (List ℕ)) (e : SearchRefusal) (result : Result (List (List ℕ)) SearchRefusal) → IsUnread e → IsErrAnd result (λ x. x ≡ e) → SearchAsked desk cars result
refused_asked desk cars e (Ok chain) is gives = absurd gives
refused_asked desk cars e (Err x) is gives = unread_asked desk cars x (subst (λ (y : SearchRefusal). IsUnread y) (sym gives) is)
