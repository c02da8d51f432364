-- The law over every history.
use Rattle.std.specs.Prelude.{◌≡◌, ℕ, ◌<◌, true, ◌⊎◌, List, ◌∷◌, pos, is_some, Some, None, Ok}
use Rattle.terms.specs.declared.service.Service.{Service}
use Rattle.terms.specs.declared.class.Class.{Class}
use Rattle.market.specs.Shapes.{BareFigures}
use Rattle.terms.specs.Services.{service_of_letter}
use Rattle.editions.specs.Meaning.{Meaning}
use Rattle.table.specs.Rows.{Rising}
use Rattle.history.specs.Calls.{State, Line, Call, stated, statement, read}
use Rattle.history.specs.Histories.{History, Lived, load_of, quantities_of, prices_of, occurrences, last_issue, last_draft, charge_at, billed_of, total_figure, charge, credit, reissue}

-- the charges of all lines of all statements add up to what their credits add up to
abbrev pub Balanced : History → Type 0
Balanced h = total_figure charge h ≡ total_figure credit h

-- no statement was issued
abbrev pub NoIssue : History → Type 0
NoIssue h = last_issue h ≡ None

-- some QSE had a load above 0 at the last issue
abbrev pub SomeLoad : History → Type 0
SomeLoad h = (b : History) × (q : ℕ) × (load : ℕ) × (last_issue h ≡ Some b) × (load_of b q ≡ Some load) × (0 < load)

-- nobody was charged at the last issue: every charge settled at the last draft before it is 0
abbrev pub NobodyCharged : History → Type 0
NobodyCharged h = (b : History) × (e : Meaning) × (d : History) × (last_issue h ≡ Some b) × (last_draft b ≡ Some (e, d)) × ((q : ℕ) (s : Service) → is_some (load_of d q) ≡ true → charge_at e d q s ≡ 0)

-- the balance law, of a history: the books balance exactly where no statement was issued, or some QSE had a load above 0 at the last issue, or nobody was charged at it
abbrev pub BalanceAt : History → Type 0
BalanceAt h = (Balanced h → NoIssue h ⊎ (SomeLoad h ⊎ NobodyCharged h)) × (NoIssue h ⊎ (SomeLoad h ⊎ NobodyCharged h) → Balanced h)

abbrev pub BalanceLaw : Type 0
BalanceLaw = (h : History) (s : State) → Lived h s → BalanceAt h

-- the same QSEs with the same loads, and the same prices
abbrev pub SameQses : History → History → Type 0
SameQses x y = (q : ℕ) → load_of x q ≡ load_of y q

abbrev pub SamePrices : History → History → Type 0
SamePrices x y = prices_of x ≡ prices_of y

-- rows match: every QSE has the same fifty quantities, and each class with its figures occurs equally often under it
abbrev pub RowsMatch : History → History → Type 0
RowsMatch x y = ((q : ℕ) (s : Service) → quantities_of x q s ≡ quantities_of y q s) × ((q : ℕ) (k : Class) (f : BareFigures) → occurrences x q k f ≡ occurrences y q k f)

-- a history with an edition put under its last issue
abbrev pub PutUnder : Meaning → History → History → Type 0
PutUnder e h g = (lines : List Line) × (s : State) × (g ≡ reissue e lines h) × Lived g s

-- whichever one edition is put under both last issues, both books billed every QSE the same in every service
abbrev pub SameBills : History → History → Type 0
SameBills h k = (e : Meaning) (g l : History) → PutUnder e h g → PutUnder e k l → (q : ℕ) (s : Service) → billed_of g q s ≡ billed_of l q s

-- the distinction law, of two histories: where QSEs, loads and prices are the same at the last issues, rows match exactly where all bills are the same
abbrev pub DistinctionAt : History → History → Type 0
DistinctionAt h k = (b d : History) → last_issue h ≡ Some b → last_issue k ≡ Some d → SameQses b d → SamePrices b d → (RowsMatch b d → SameBills h k) × (SameBills h k → RowsMatch b d)

abbrev pub DistinctionLaw : Type 0
DistinctionLaw = (h k : History) (s t : State) → Lived h s → Lived k t → DistinctionAt h k

-- every edition can be put under an issue
abbrev pub EveryEditionAt : History → Type 0
EveryEditionAt h = (e : Meaning) → (g : History) × PutUnder e h g

abbrev pub EveryEdition : Type 0
EveryEdition = (h : History) (s : State) → Lived h s → EveryEditionAt h

-- "read" answers what the lines of the statements add up to
abbrev pub ReadLaw : Type 0
ReadLaw = (h : History) (s : State) → Lived h s → (qse letter : ℕ) (v : Service) (pair : ℕ × ℕ) → service_of_letter letter ≡ Ok v → read s qse letter ≡ Ok pair → billed_of h qse v ≡ (pos pair.0, pos pair.1)

-- every statement has a line for each QSE in rising order: what was settled less what was billed before
abbrev pub StatementLaw : Type 0
StatementLaw = (h : History) (c : Call) (lines : List Line) (s : State) → Lived ((c, stated lines) ∷ h) s → (t : State) × Lived h t × (lines ≡ statement t) × Rising (λ l. l.qse) lines

-- the law of a history, beside that of any other lived book
pub record LawAt (h : History) : Type 0 where
  pub balance : BalanceAt h
  pub distinction : (k : History) (t : State) → Lived k t → DistinctionAt h k
  pub editions : EveryEditionAt h
