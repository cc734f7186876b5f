-- What is promised of a desk over all its deliveries: one product for a number, kept and answered, and refusals by the first
-- rule that is broken (this project's own).
use Rattle.std.specs.Prelude.{◌≡◌, List, ◌∷◌, ◌++◌, Option, Some, None, false}
use Rattle.chip_events.specs.Acts.{IsIn}
use Rattle.ledger.specs.Ledger.{Desk, Outcome, Issued, Kept, Refused, Faulted, NoMemory, Delivery, Entry, entries, faces, kept_for, is_open}
use Rattle.ledger.specs.Story.{NoTwo}

module _ {Case Query Face Product Reason Fault : Type 0} (D : Desk Case Query Face Product Reason Fault) where
  -- ---- one certificate, kept

  -- what a delivery was answered with, where it was answered with a product
  abbrev pub given : Outcome Product Reason Fault → Option Product
  given (Issued p) = Some p
  given (Kept p) = Some p
  given (Refused k) = None
  given (Faulted f) = None
  given NoMemory = None

  abbrev pub entry_for : Delivery Case Product Reason Fault → Product → Entry Query Product
  entry_for d p = record { query = D.query d.case_of; product = p }

  -- Whatever a request was given stands in the ledger for that request.
  abbrev pub GivenIsKept : List (Delivery Case Product Reason Fault) → List (Entry Query Product) → Type 0
  GivenIsKept ds ledger = (d : Delivery Case Product Reason Fault) (p : Product) → IsIn d ds → given d.outcome ≡ Some p
      → IsIn (entry_for d p) ledger

  -- ---- answered

  -- the delivery is of this request, and was answered at all
  pub record IsAnswered (q : Query) (d : Delivery Case Product Reason Fault) : Type 0 where
    pub request : D.query d.case_of ≡ q
    pub answered : is_open d.outcome ≡ false

  -- One delivery of the request made the entry, and tells it where it was answered. Each later one of the request that was
  -- answered has the entry's product.
  pub record IsAnsweredFrom (ds : List (Delivery Case Product Reason Fault)) (e : Entry Query Product) : Type 0 where
    pub earlier : List (Delivery Case Product Reason Fault)
    pub maker : Delivery Case Product Reason Fault
    pub later : List (Delivery Case Product Reason Fault)
    pub split : ds ≡ earlier ++ maker ∷ later
    pub request : D.query maker.case_of ≡ e.query
    pub left : maker.left ≡ Some e.product
    pub first : is_open maker.outcome ≡ false → maker.outcome ≡ Issued e.product
    pub again : (d : Delivery Case Product Reason Fault) → IsIn d later → IsAnswered e.query d → d.outcome ≡ Kept e.product

  -- ---- refused

  -- With the entries that stood, the request had none, and this is the first rule that it broke.
  pub record IsFirstBroken (ledger : List (Entry Query Product)) (d : Delivery Case Product Reason Fault) (k : Reason) : Type 0 where
    pub none : kept_for D ledger (D.query d.case_of) ≡ None
    pub first : D.first (faces D ledger) d.case_of ≡ Some k

  -- Each refusal names it.
  abbrev pub RefusalsNameTheFirst : List (Delivery Case Product Reason Fault) → Type 0
  RefusalsNameTheFirst ds = (earlier later : List (Delivery Case Product Reason Fault)) (d : Delivery Case Product Reason Fault) (k : Reason)
      → ds ≡ earlier ++ d ∷ later → d.outcome ≡ Refused k → IsFirstBroken (entries D earlier) d k

  -- ---- one desk

  -- From an empty ledger these deliveries led to this one.
  pub record KeepsItsWord (ds : List (Delivery Case Product Reason Fault)) (ledger : List (Entry Query Product)) : Type 0 where
    pub one : NoTwo D ledger
    pub kept : GivenIsKept ds ledger
    pub answered : (e : Entry Query Product) → IsIn e ledger → IsAnsweredFrom ds e
    pub refused : RefusalsNameTheFirst ds
