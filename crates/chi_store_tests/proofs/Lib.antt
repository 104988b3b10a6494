pub mod RefusingCalls
