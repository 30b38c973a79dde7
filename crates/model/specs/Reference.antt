-- The reference machine (the paper's plain desk): the same N, K and M; no store buffers, epochs, times or paths.
-- It has records and questions of its own, so that a mistake in the rules cannot hide in it too. Assumes nothing.
use Rattle.std.specs.Prelude.{ℕ, suc, ◌-◌, ◌≡◌, Bool, not, ◌&&◌, cond, List, [], ◌∷◌, map, get_or, set, replicate, leb, ltb, eqb}

-- a card: state 0 Free, 1 Allocated, 2 Reachable, 3 Removed, 4 Retired
pub record Cell : Type 0 where
  pub state : ℕ
  pub owner : ℕ
  pub guest : ℕ

-- a slot: the armed card + 1, and 0 for none; claim
pub record Pointer : Type 0 where
  pub assigned : ℕ
  pub validated : ℕ

pub record Reference : Type 0 where
  pub processes : ℕ
  pub hazards : ℕ
  pub nodes : ℕ
  pub cells : List Cell
  -- a row for each process
  pub pointers : List (List Pointer)

-- the five numbers of a step
pub record Command : Type 0 where
  pub kind : ℕ
  pub process : ℕ
  pub hazard : ℕ
  pub node : ℕ
  pub guest : ℕ

abbrev pub empty_cell : Cell
empty_cell = record { state = 0; owner = 0; guest = 0 }

abbrev pub empty_pointer : Pointer
empty_pointer = record { assigned = 0; validated = 0 }

-- N, K, M, and 0 elsewhere
unfoldable pub initial : ℕ → ℕ → ℕ → Reference
initial n k m =
    record {
      processes = n;
      hazards = k;
      nodes = m;
      cells = replicate m empty_cell;
      pointers = replicate n (replicate k empty_pointer);
    }

abbrev pub cell_at : Reference → ℕ → Cell
cell_at q c = get_or q.cells c empty_cell

abbrev pub row_at : Reference → ℕ → List Pointer
row_at q p = get_or q.pointers p []

abbrev pub pointer_at : Reference → ℕ → ℕ → Pointer
pointer_at q p h = get_or (row_at q p) h empty_pointer

abbrev pub set_cell : Reference → ℕ → Cell → Reference
set_cell q c x =
    record { processes = q.processes; hazards = q.hazards; nodes = q.nodes; cells = set q.cells c x; pointers = q.pointers }

-- every card replaced by f of it
abbrev pub with_each_cell : Reference → (Cell → Cell) → Reference
with_each_cell q f =
    record { processes = q.processes; hazards = q.hazards; nodes = q.nodes; cells = map f q.cells; pointers = q.pointers }

abbrev pub set_pointer : Reference → ℕ → ℕ → Pointer → Reference
set_pointer q p h x =
    record {
      processes = q.processes;
      hazards = q.hazards;
      nodes = q.nodes;
      cells = q.cells;
      pointers = set q.pointers p (set (row_at q p) h x);
    }

-- the card and the slot that a step names, and the card that the slot is armed with
abbrev pub cell_of : Reference → Command → Cell
cell_of q s = cell_at q s.node

abbrev pub pointer_of : Reference → Command → Pointer
pointer_of q s = pointer_at q s.process s.hazard

abbrev pub pointed_by : Reference → Command → Cell
pointed_by q s = cell_at q ((pointer_of q s).assigned - 1)

-- ---- its questions: worker below N, slot below K, card below M, a limit of 1 to 256, the card in a state, the card owned
abbrev pub process? : Reference → Command → Bool
process? q s = ltb s.process q.processes

abbrev pub hazard? : Reference → Command → Bool
hazard? q s = ltb s.hazard q.hazards

abbrev pub node? : Reference → Command → Bool
node? q s = ltb s.node q.nodes

abbrev pub limit? : Command → Bool
limit? s = leb 1 s.guest && leb s.guest 256

abbrev pub state? : ℕ → Reference → Command → Bool
state? k q s = eqb (cell_of q s).state k

abbrev pub owner? : Reference → Command → Bool
owner? q s = eqb (cell_of q s).owner s.process

-- what it asks itself at steps 1 to 8 and 14 to 17; nothing at any other
unfoldable pub asks : Reference → Command → List Bool
asks q s =
    cond (eqb s.kind 1) (process? q s ∷ node? q s ∷ state? 0 q s ∷ [])
    (cond (eqb s.kind 2) (process? q s ∷ node? q s ∷ state? 1 q s ∷ owner? q s ∷ [])
    (cond (eqb s.kind 3) (process? q s ∷ hazard? q s ∷ node? q s ∷ [])
    (cond (eqb s.kind 4)
    (process? q s ∷ hazard? q s ∷ not (eqb (pointer_of q s).assigned 0) ∷ eqb (pointed_by q s).state 2 ∷ [])
    (cond (eqb s.kind 5) (process? q s ∷ hazard? q s ∷ eqb (pointer_of q s).validated 1 ∷ [])
    (cond (eqb s.kind 6) (process? q s ∷ hazard? q s ∷ [])
    (cond (eqb s.kind 7) (process? q s ∷ node? q s ∷ state? 2 q s ∷ [])
    (cond (eqb s.kind 8) (process? q s ∷ node? q s ∷ state? 3 q s ∷ owner? q s ∷ [])
    (cond (eqb s.kind 14) (process? q s ∷ node? q s ∷ state? 3 q s ∷ owner? q s ∷ [])
    (cond (eqb s.kind 15) (process? q s ∷ [])
    (cond (eqb s.kind 16) (process? q s ∷ [])
    (cond (eqb s.kind 17) (process? q s ∷ node? q s ∷ limit? s ∷ [])
    [])))))))))))

-- a Retired card of worker p becomes one of worker r's
abbrev pub passed : ℕ → ℕ → Cell → Cell
passed p r x = cond (eqb x.state 4 && eqb x.owner p) (record { state = 4; owner = r; guest = x.guest }) x

-- ---- what it does at steps 1 to 4, 6 to 8, 14 and 15, where the card field is a worker; nothing at any other
unfoldable pub follow : Reference → Command → Reference
follow q s =
    cond (eqb s.kind 1) (set_cell q s.node (record { state = 1; owner = s.process; guest = s.guest }))
    (cond (eqb s.kind 2) (set_cell q s.node (record { state = 2; owner = 0; guest = (cell_of q s).guest }))
    (cond (eqb s.kind 3) (set_pointer q s.process s.hazard (record { assigned = suc s.node; validated = 0 }))
    (cond (eqb s.kind 4)
    (set_pointer q s.process s.hazard (record { assigned = (pointer_of q s).assigned; validated = 1 }))
    (cond (eqb s.kind 6) (set_pointer q s.process s.hazard (record { assigned = 0; validated = 0 }))
    (cond (eqb s.kind 7) (set_cell q s.node (record { state = 3; owner = s.process; guest = (cell_of q s).guest }))
    (cond (eqb s.kind 8) (set_cell q s.node (record { state = 4; owner = (cell_of q s).owner; guest = (cell_of q s).guest }))
    (cond (eqb s.kind 14) (set_cell q s.node (record { state = 2; owner = 0; guest = (cell_of q s).guest }))
    (cond (eqb s.kind 15) (with_each_cell q (passed s.process s.node))
    q))))))))

-- the value of a use
unfoldable pub value_of : Reference → Command → ℕ
value_of q s = (pointed_by q s).guest

-- ---- a free: of a Retired card that no slot has armed with claim 1
pub record Freeable (q : Reference) (c : ℕ) : Type 0 where
  pub retired : (cell_at q c).state ≡ 4
  pub unclaimed : (p h : ℕ) → (pointer_at q p h).validated ≡ 1 → (pointer_at q p h).assigned ≡ suc c → ⊥

abbrev pub free : Reference → ℕ → Reference
free q c = set_cell q c empty_cell

-- one after another
abbrev pub free_each : Reference → List ℕ → Reference
free_each q [] = q
free_each q (c ∷ cs) = free_each (free q c) cs

abbrev pub EachFreeable : Reference → List ℕ → Type 0
EachFreeable q [] = Unit {0}
EachFreeable q (c ∷ cs) = Freeable q c × EachFreeable (free q c) cs
