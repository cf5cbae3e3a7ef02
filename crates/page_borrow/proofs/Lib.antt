mod Left
mod OwnBytes
