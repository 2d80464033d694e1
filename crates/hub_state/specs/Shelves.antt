-- What each call of a shelf returns and keeps, in the words of the trait's ghost members.
use Rattle.std.specs.Prelude.{◌≡◌, ◌⊎◌, ◌<◌, ◌≤◌, ℕ, Option, Result, Err, IfOk, IsErrOf}
use Rattle.hub_state.specs.State.{State}
use Rattle.hub_state.specs.declared.shelf.ShelfFault.{ShelfFault}
use Rattle.hub_state.specs.declared.shelf.ShelfFault.TheVariants.{Failed}

-- the last value of the count of failures
abbrev pub last_count : ℕ
last_count = 18446744073709551615

-- the count of failures rose, or is at its last value
abbrev pub HasFailed : ℕ → ℕ → Type 0
HasFailed before now = (before < now) ⊎ (now ≡ last_count)

-- The count never falls. A call that raises it returns Failed. Failed is returned only if it rose or is at its last
-- value; from that value on every call returns Failed.
pub record HasCause {T : Type 0} (before now : ℕ) (result : Result T ShelfFault) : Type 0 where
  pub later : before ≤ now
  pub failed : IsErrOf result Failed → HasFailed before now
  pub counted : before < now → result ≡ Err Failed
  pub ended : before ≡ last_count → result ≡ Err Failed

module _ {D : Type 0} (has : D → State → Type 0) (doubts : D → ℕ) (failed : D → ℕ) (may_remain : D → Option State → Type 0) (old new : D) where
  -- if no doubt arose, the shelf has the content that it had
  abbrev pub KeepsContent : Type 0
  KeepsContent = doubts new ≡ 0 → (s : State) → has old s → has new s

  -- if no doubt arose, a crash leaves only what it could have left before
  abbrev pub LeavesNoMore : Type 0
  LeavesNoMore = doubts new ≡ 0 → (left : Option State) → may_remain new left → may_remain old left

  -- what a read leaves, whatever it returns
  pub record IsRead {T : Type 0} (result : Result T ShelfFault) : Type 0 where
    pub cause : HasCause (failed old) (failed new) result
    pub doubt : doubts old ≤ doubts new
    pub content : KeepsContent
    pub crash : LeavesNoMore

  -- what a read returns about the content, and what it leaves
  pub record Reads {T : Type 0} (Right : State → T → Type 0) (result : Result T ShelfFault) : Type 0 where
    pub value : doubts new ≡ 0 → (s : State) → has old s → IfOk result (Right s)
    pub kept : IsRead result

  -- what any number of reads leave
  pub record IsKept : Type 0 where
    pub later : failed old ≤ failed new
    pub doubt : doubts old ≤ doubts new
    pub content : KeepsContent
    pub crash : LeavesNoMore

  -- what any number of reads show about the content, and what they leave
  pub record Finds {T : Type 0} (result : Result T ShelfFault) (Says : State → Type 0) : Type 0 where
    pub value : doubts new ≡ 0 → (s : State) → has old s → Says s
    pub kept : IsKept
    pub cause : IsErrOf result Failed → HasFailed (failed old) (failed new)
    pub counted : failed old < failed new → result ≡ Err Failed
