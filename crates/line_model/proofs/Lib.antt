-- lines make runs of the window
pub mod LineWindows
-- what one call makes
pub mod StepsMake
pub mod EventsMade
pub mod CallEventsMade
-- the calls of a line are its part
pub mod CallParts
pub mod PushParts
pub mod CloseParts
pub mod PartsJoined
pub mod LineCallsMade
-- which records whole lines commit
pub mod FewFills
pub mod WrittenSteps
pub mod WrittenLines
-- what writers commit
pub mod WriterHistories
-- a frame that is alone
pub mod NeedsDue
pub mod SingleFrames
-- examples
pub mod ExamplesMade
-- what a replay makes
pub mod RunCalls
pub mod ReplayedLines
-- a ring beside an account
pub mod Standing
-- what the frame on top does
pub mod WishesKept
pub mod DueRuns
pub mod StepDoes
pub mod TopStays
pub mod TopMoves
pub mod TopBegins
pub mod TopSteps
pub mod TopsDo
-- whole scripts have one account
pub mod OneDue
pub mod OneAccount
pub mod OneText
-- what is printed of the log
pub mod LogLines
-- what an account is
pub mod AccountWindows
pub mod NestedFrames
-- worlds have accounts
pub mod StandingKept
pub mod ReaderLines
pub mod ReaderGoes
pub mod ReaderStands
pub mod PushCases
pub mod RecordsStand
pub mod WriterStands
pub mod LinesStand
pub mod AccountsOfWorlds
