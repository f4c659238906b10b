mod Agreed
pub mod Answers
mod Asking
mod Authenticating
mod Carrying
pub mod Choices
mod Codes
mod Courses
mod Cutting
mod Deciding
pub mod Directing
pub mod DirectoryRead
mod Ends
mod EntriesFound
pub mod Fields
mod Filled
mod Finding
mod Firsts
mod Generating
mod Giving
mod Hearing
mod Hosting
mod InRequest
mod Initiating
mod Judging
mod Keeping
mod Leaving
mod ListSteps
pub mod Listing
mod ListsRead
mod Made
mod MadeScripts
mod Names
pub mod OptionsRead
mod Order
mod OrderedData
pub mod Ordering
mod OtherKinds
mod Owned
mod PinLengths
mod PlainReplies
mod ReadOn
mod Reading
mod Running
pub mod Runs
mod Scripting
pub mod Seeking
mod Selecting
pub mod Selects
mod Shadows
pub mod Shown
mod Stages
mod Standing
mod StepByStep
mod Templates
mod Verifying
mod Walking
