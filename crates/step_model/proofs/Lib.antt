-- collectors: what a delivery adds
pub mod Gains
-- scripts: whose world a text is of, and that there is one
pub mod WorldsTold
pub mod OneStepText
-- steps: how the frames, the records and the counts move
pub mod StepMoves
pub mod RecordMoves
pub mod CountsFollowing
pub mod SameSeen
pub mod Assigned
pub mod ChangesLead
